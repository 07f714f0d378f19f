-- The table of a common year, and February's extra day in a leap year (`length_table`).
use Rattle.std.proofs.Common.{◌≡◌, ◌∙◌, ap, sym, arith, ℕ, ◌+◌, ◌-◌, get_or}
use native.Mathlib.Nat.{add-zero}
use borrow.Author.Tests.{eq-eqb, ne_eqb}
use Rattle.calendar.specs.Dates.{month_length}
use Rattle.calendar.specs.Inner.{leap_day}
use Rattle.calendar.proofs.Months.{length_table, commons}
use Rattle.calendar.proofs.Date.month_length.Goals as goal

pub returns-then-self-eq2-clause-days : goal.returns-then-self-eq2-clause-days
returns-then-self-eq2-clause-days c =
    let a = c.args.self in
    let t : get_or commons (a.month - 1) 0 + leap_day a.year ≡ month_length a.year a.month = simp (eq-eqb a.month 2 c.if-self-eq2.true) at (length_table a.year a.month c.requires.from c.requires.to) in
    let e : get_or commons (a.month - 1) 0 ≡ 28 = ap (λ (k : ℕ). get_or commons (k - 1) 0) c.if-self-eq2.true in
    omega (arith, t, e, c.leap.ensures.days)

pub returns-clause-days : goal.returns-clause-days
returns-clause-days c =
    let a = c.args.self in
    sym (add-zero _) ∙ simp (ne_eqb a.month 2 c.if-self-eq2.false) at (length_table a.year a.month c.requires.from c.requires.to)
