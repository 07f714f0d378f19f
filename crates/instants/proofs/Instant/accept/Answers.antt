-- Without an index the day is outside, with one it is not, and the microseconds are tested then.
use Rattle.std.proofs.Common.{rules, ◌≡◌, ◌∙◌, sym, w64, FitsSigned, Some, None, refl}
use borrow.Author.Tests.{le-leb, lt-leb}
use mir.Facts.{to_z-of_z}
use Rattle.std.proofs.lemmas.Result.{err_from_is_err_and}
use Rattle.instants.proofs.Accepted.{HasIndex, index_outside, index_at}
use Rattle.instants.specs.Instants.{acceptance}
use Rattle.instants.specs.Inner.{index_answer}
use Rattle.instants.specs.declared.refusal.Refusal.TheVariants.{Day}
use Rattle.instants.proofs.Instant.accept.Goals as goal

pub returns-in_err-index : goal.returns-in_err-index
unfolding acceptance
returns-in_err-index c =
    let f : FitsSigned w64 c.args.self.day = search rules in
    let n : c.day_index.result ≡ None = search rules in
    let e : index_answer c.args.self.day ≡ None = rw (to_z-of_z f) at (sym c.day_index.ensures ∙ n) in
    let p = err_from_is_err_and c.from_residual.result c.from_residual.ensures.1 in
    let v : c.in_err-index.field-0.0 ≡ Day = search rules in
    rw (index_outside _ e, p.1, p.2, v) refl

pub returns-then-self-ge-DAY_MICROS : goal.returns-then-self-ge-DAY_MICROS
unfolding acceptance
returns-then-self-ge-DAY_MICROS c =
    let f : FitsSigned w64 c.args.self.day = search rules in
    let e : c.day_index.result ≡ Some c.in_ok-index.index = search rules in
    let k : HasIndex c.args.self.day c.in_ok-index.index = index_at _ _ (rw (to_z-of_z f) at (sym c.day_index.ensures ∙ e)) in
    simp (k.inside, le-leb _ _ c.if-self-ge-DAY_MICROS.true)

pub returns : goal.returns
unfolding acceptance
returns c =
    let f : FitsSigned w64 c.args.self.day = search rules in
    let e : c.day_index.result ≡ Some c.in_ok-index.index = search rules in
    let k : HasIndex c.args.self.day c.in_ok-index.index = index_at _ _ (rw (to_z-of_z f) at (sym c.day_index.ensures ∙ e)) in
    simp (k.inside, lt-leb _ _ c.if-self-ge-DAY_MICROS.false, k.index)
