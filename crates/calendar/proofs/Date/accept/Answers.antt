-- The three tests of the code are the cases of the definition in their order; a date that passes them has the index that years, months and days add up to.
use Rattle.std.proofs.Common.{◌≡◌, ap, ◌+◌, ◌-◌}
use Rattle.calendar.specs.Dates.{date, date_index}
use Rattle.calendar.specs.Inner.{date_acceptance}
use Rattle.calendar.proofs.Date.accept.Goals as goal
use Rattle.std.specs.Prelude.{Ok}

pub returns : goal.returns
unfolding date_acceptance date_index
returns c =
    let a = c.args.self in
    let n : c.years.result + c.days_before.result + (a.day - 1) ≡ date_index (date a.year a.month a.day) = simp (c.years.ensures.days, c.days_before.ensures.days) in
    simp (c.if-self.false, c.if-self-2.false, ← c.month_length.ensures.days, c.if-self-month_length.false) (ap Ok n)
