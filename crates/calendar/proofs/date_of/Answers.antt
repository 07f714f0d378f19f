-- A day number without an index is outside, and one with an index has the date of that index.
use Rattle.std.proofs.Common.{◌≡◌, ◌∙◌, ap, sym, arith, rules, refl}
use mir.Facts.{to_z-of_z}
use Rattle.std.proofs.lemmas.Result.{err_from_is_err_and}
use Rattle.instants.specs.Inner.{index_answer}
use Rattle.instants.specs.declared.refusal.Refusal.TheVariants.{Day}
use Rattle.instants.proofs.Accepted.{HasIndex, index_outside, index_at}
use Rattle.calendar.specs.Dates.{date_of}
use Rattle.calendar.proofs.date_of.Goals as goal
use Rattle.std.specs.Prelude.{Ok, Some, None}

pub date_after-requires : goal.date_after-requires
date_after-requires c =
    let e : c.day_index.result ≡ Some c.in_ok-index.index = search rules in
    omega (arith, (index_at _ _ (rw (to_z-of_z c.ranges.day) at (sym c.day_index.ensures ∙ e))).high)

pub returns-in_err-index : goal.returns-in_err-index
unfolding date_of
returns-in_err-index c =
    let n : c.day_index.result ≡ None = search rules in
    let e : index_answer c.args.day ≡ None = rw (to_z-of_z c.ranges.day) at (sym c.day_index.ensures ∙ n) in
    let p = err_from_is_err_and c.from_residual.result c.from_residual.ensures.1 in
    let v : c.in_err-index.field-0.0 ≡ Day = search rules in
    rw (index_outside _ e, p.1, p.2, v) refl

pub returns : goal.returns
unfolding date_of
returns c =
    let e : c.day_index.result ≡ Some c.in_ok-index.index = search rules in
    let k : HasIndex c.args.day c.in_ok-index.index = index_at _ _ (rw (to_z-of_z c.ranges.day) at (sym c.day_index.ensures ∙ e)) in
    rw (k.inside, k.index) (ap Ok c.date_after.ensures)
