-- The tests of the count and the step, of the start, of the last instant and of the buffer, each with what those before it have left open.
use Rattle.std.proofs.Common.{arith, rules, ◌≡◌, ℕ, ◌-◌, ◌*◌, ◌^◌, ◌<◌, ◌∙◌, true, false, ap, sym, Ok, Err}
use Rattle.std.proofs.lemmas.Result.{err_from_is_err_and}
use borrow.Author.Tests.{lt-ltb, le-ltb}
use Rattle.run.proofs.Refusals.{Counted, counted, start_accepted, refused_at_start, refused_at_end, refused_short, steps_few}
use Rattle.run.proofs.accept.Goals as goal

few : {count step : ℕ} → Counted count step → (count - 1) * step < 2 ^ 62
few {count} {step} h = steps_few (count - 1) step (omega (arith, h.count_most)) h.step_most

pub returns-in_err-accept : goal.returns-in_err-accept
returns-in_err-accept c =
    let n : c.accept.result ≡ Err c.in_err-accept.field-0.0 = search rules in
    let p = err_from_is_err_and c.from_residual.result c.from_residual.ensures.1 in
    p.1 ∙ (ap Err p.2 ∙ refused_at_start _ _ c.args.count c.args.step c.args.size (counted _ _ c.if-count.false c.if-step.false) (sym c.accept.ensures ∙ n))

pub later-requires : goal.later-requires
later-requires c =
    let n : c.accept.result ≡ Ok c.in_ok-accept.field-0 = search rules in
    record { accepted = start_accepted _ _ _ (sym c.accept.ensures ∙ n); few = few (counted _ _ c.if-count.false c.if-step.false) }

pub returns-in_err-accept-2 : goal.returns-in_err-accept-2
returns-in_err-accept-2 c =
    let n : c.accept.result ≡ Ok c.in_ok-accept.field-0 = search rules in
    let m : c.accept-2.result ≡ Err c.in_err-accept-2.field-0.0 = search rules in
    let p = err_from_is_err_and c.from_residual-in_err-accept-2.result c.from_residual-in_err-accept-2.ensures.1 in
    p.1
    ∙ (ap Err p.2
    ∙ refused_at_end _ _ c.args.count c.args.step c.args.size (counted _ _ c.if-count.false c.if-step.false) (start_accepted _ _ _ (sym c.accept.ensures ∙ n))
    (rw c.later.ensures at (sym c.accept-2.ensures) ∙ m))

pub returns-then-size-count : goal.returns-then-size-count
returns-then-size-count c =
    let n : c.accept.result ≡ Ok c.in_ok-accept.field-0 = search rules in
    let m : c.accept-2.result ≡ Ok c.in_ok-accept-2.field-0 = search rules in
    refused_short _ _ c.args.count c.args.step c.args.size (counted _ _ c.if-count.false c.if-step.false) (start_accepted _ _ _ (sym c.accept.ensures ∙ n))
    (rw c.later.ensures at (sym c.accept-2.ensures) ∙ m) true (lt-ltb _ _ c.if-size-count.true)

pub returns : goal.returns
returns c =
    let n : c.accept.result ≡ Ok c.in_ok-accept.field-0 = search rules in
    let m : c.accept-2.result ≡ Ok c.in_ok-accept-2.field-0 = search rules in
    refused_short _ _ c.args.count c.args.step c.args.size (counted _ _ c.if-count.false c.if-step.false) (start_accepted _ _ _ (sym c.accept.ensures ∙ n))
    (rw c.later.ensures at (sym c.accept-2.ensures) ∙ m) false (le-ltb _ _ c.if-size-count.false)
