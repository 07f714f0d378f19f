-- `accept` decides, and the mark comes from the index of the day.
use Rattle.std.proofs.Common.{rules, ◌≡◌, sym, ap, arith, ◌∙◌, ◌+◌, ◌%◌, Ok, Err, w64, FitsSigned}
use mir.Facts.{to_z-of_z}
use Rattle.std.proofs.lemmas.Result.{err_from_is_err_and}
use Rattle.instants.specs.Instants.{acceptance}
use Rattle.instants.proofs.Accepted.{accepted_at, refused_too, answered_too}
use Rattle.clock.specs.Words.{mark, split_of}
use Rattle.clock.proofs.Mark.{mark_index}
use Rattle.clock.proofs.split.Goals as goal

pub returns-in_err-index : goal.returns-in_err-index
unfolding split_of
returns-in_err-index c =
    let n : c.accept.result ≡ Err c.in_err-index.field-0.0 = search rules in
    let found : acceptance c.args.t.day c.args.t.micros ≡ Err c.in_err-index.field-0.0 = sym c.accept.ensures ∙ n in
    let p = err_from_is_err_and c.from_residual.result c.from_residual.ensures.1 in
    p.1 ∙ (ap Err p.2 ∙ refused_too Err _ _ _ found)

pub overflow_add-result : goal.overflow_add-result
overflow_add-result c =
    let e : c.accept.result ≡ Ok c.in_ok-index.index = search rules in
    let found : acceptance c.args.t.day c.args.t.micros ≡ Ok c.in_ok-index.index = sym c.accept.ensures ∙ e in
    omega (arith, (accepted_at _ _ _ found).high)

pub overflow_add-result-2 : goal.overflow_add-result-2
overflow_add-result-2 c =
    let e : c.accept.result ≡ Ok c.in_ok-index.index = search rules in
    let found : acceptance c.args.t.day c.args.t.micros ≡ Ok c.in_ok-index.index = sym c.accept.ensures ∙ e in
    omega (arith, (accepted_at _ _ _ found).less)

pub returns : goal.returns
unfolding split_of
returns c =
    let e : c.accept.result ≡ Ok c.in_ok-index.index = search rules in
    let found : acceptance c.args.t.day c.args.t.micros ≡ Ok c.in_ok-index.index = sym c.accept.ensures ∙ e in
    let marked : mark c.args.t.day ≡ (c.in_ok-index.index + 7) % 8 = mark_index _ _ (accepted_at _ _ _ found).is in
    let f : FitsSigned w64 c.args.t.day = search rules in
    simp (to_z-of_z f, ← marked) (answered_too Err _ _ _ found)
