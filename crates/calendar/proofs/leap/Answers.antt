-- The test of the code is the rule.
use Rattle.std.proofs.Common.{◌≡◌, ◌∙◌, refl, Bool, true, false, cond}
use mir.Val.{bool_byte}
use Rattle.calendar.specs.Dates.{leap_year}
use Rattle.calendar.specs.Inner.{leap_day}
use Rattle.calendar.proofs.leap.Goals as goal

-- `u64::from` gives 1 and 0
as_day : (b : Bool) → bool_byte b ≡ cond b 1 0
as_day true = refl
as_day false = refl

pub returns-clause-days : goal.returns-clause-days
unfolding leap_year leap_day
returns-clause-days c = c.from.ensures ∙ as_day _
