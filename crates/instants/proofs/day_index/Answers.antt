-- The tests of the code are those of the range; a day number that passes both is small, so that the sum and its cast keep it.
use Rattle.std.proofs.Common.{◌≡◌, ◌∙◌, ap, sym, true, false, ℤ, pos, ◌+ℤ◌, Some}
use lib.IntN.{nat_abs}
use lib.Signed.{lt_z}
use mathlib.Core.Bool.{◌||◌}
use mir.Facts.{to_z-of_z}
use Rattle.instants.specs.Limits.{first_day, last_day, index_offset}
use Rattle.instants.specs.Instants.{outside, day_index}
use Rattle.instants.specs.Inner.{index_answer}
use Rattle.instants.proofs.Accepted.{both_false}
use Rattle.instants.proofs.Signs.{DayInRange, day_in_range, biased, biased_read}
use Rattle.instants.proofs.day_index.Goals as goal

pub returns-then-day : goal.returns-then-day
unfolding index_answer outside
returns-then-day c =
    let late : (lt_z c.args.day first_day || lt_z last_day c.args.day) ≡ true = rw (to_z-of_z c.ranges.day) at c.if-day.true in
    rw late

pub returns : goal.returns
unfolding index_answer outside day_index
returns c =
    let f = c.ranges.day in
    let in_range : (lt_z c.args.day first_day || lt_z last_day c.args.day) ≡ false = rw (to_z-of_z f) at c.if-day.false in
    let p = both_false (lt_z c.args.day first_day) (lt_z last_day c.args.day) in_range in
    let d : DayInRange c.args.day = day_in_range c.args.day p.0 p.1 in
    simp (p.0, p.1)
    (ap (λ (z : ℤ). Some (nat_abs z)) (biased_read c.args.day f d ∙ (sym (biased c.args.day f d) ∙ ap (λ (z : ℤ). z +ℤ pos index_offset) (to_z-of_z f))))
