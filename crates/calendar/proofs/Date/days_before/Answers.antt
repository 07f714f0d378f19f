-- The table has the days of a common year, and past February the leap day comes to them.
use Rattle.std.proofs.Common.{◌≡◌, ◌∙◌, sym, ◌+◌, ◌-◌, get_or}
use native.Mathlib.Nat.{add-zero}
use borrow.Author.Tests.{le-leb, lt-leb}
use Rattle.calendar.specs.Dates.{days_before}
use Rattle.calendar.specs.Inner.{leap_day}
use Rattle.calendar.proofs.Months.{before_table, befores}
use Rattle.calendar.proofs.Date.days_before.Goals as goal

pub returns-then-self-le2-clause-days : goal.returns-then-self-le2-clause-days
returns-then-self-le2-clause-days c =
    let a = c.args.self in
    sym (add-zero _) ∙ simp (le-leb a.month 2 c.if-self-le2.true) at (before_table a.year a.month c.requires.from c.requires.to)

-- past February
pub returns-clause-days : goal.returns-clause-days
returns-clause-days c =
    let a = c.args.self in
    let t : get_or befores (a.month - 1) 0 + leap_day a.year ≡ days_before a.year a.month = simp (lt-leb a.month 2 c.if-self-le2.false) at (before_table a.year a.month c.requires.from c.requires.to) in
    rw c.leap.ensures.days t
