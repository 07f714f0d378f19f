-- A record at a time: one that does not read is the refusal, and behind the last one the order is.
use Rattle.std.proofs.Common.{rules, ◌≡◌, sym, ap, ◌∙◌, Ok, Err, true, refl, List, ℕ, length, ◌<◌, arith}
use Rattle.std.proofs.lemmas.Result.{err_from_is_err_and}
use Rattle.record.proofs.Unrefused.{read_accepted}
use Rattle.files.specs.Files.{answers_in}
use Rattle.files.proofs.Refused.{length_refused, left, left_all, left_on, left_refused, left_ordered, left_unordered}
use Rattle.files.proofs.check.Goals as goal

pub returns-then-wrong_length : goal.returns-then-wrong_length
returns-then-wrong_length c = length_refused _ (sym c.wrong_length.ensures ∙ c.if-wrong_length.true)

pub loop-bytes-init : goal.loop-bytes-init
loop-bytes-init c =
    let e : c.into_iter-bytes-iterator.result.rest.now ≡ c.args.s.now = search rules in
    record { size = search rules; decided = left_all _ (sym c.wrong_length.ensures ∙ c.if-wrong_length.false) ∙ ap (λ (l : List ℕ). left true 0 (answers_in l)) (sym e) }

pub returns-in_err-r : goal.returns-in_err-r
returns-in_err-r c =
    let n : c.read.result ≡ Err c.in_err-r.field-0.0 = search rules in
    let p = err_from_is_err_and c.from_residual.result c.from_residual.ensures.1 in
    p.1 ∙ (ap Err p.2 ∙ sym (c.loop-bytes.invariant.decided ∙ left_refused _ _ _ c.in-Some.ensures.steps.1.0 (c.in-Some.ensures.steps.1.1 ∙ c.loop-bytes.invariant.size) _ _ _ (sym c.read.ensures ∙ n)))

pub moment-moment-requires : goal.moment-moment-requires
moment-moment-requires c =
    let e : c.read.result ≡ Ok c.in_ok-r.r = search rules in
    rw c.instant.ensures (read_accepted _ _ (sym c.read.ensures ∙ e))

pub loop-bytes-preserved : goal.loop-bytes-preserved
loop-bytes-preserved c =
    let e : c.read.result ≡ Ok c.in_ok-r.r = search rules in
    let m = rw c.instant.ensures at c.moment-moment.ensures in
    record {
      size = c.in-Some.ensures.steps.0 ∙ c.loop-bytes.invariant.size;
      decided = c.loop-bytes.invariant.decided ∙ (left_on _ _ _ c.in-Some.ensures.steps.1.0 (c.in-Some.ensures.steps.1.1 ∙ c.loop-bytes.invariant.size) _ _ _ (sym c.read.ensures ∙ e) ∙ rw m refl);
    }

pub returns-then-not-rise : goal.returns-then-not-rise
returns-then-not-rise c =
    let l : length c.loop-bytes.bytes-iterator.rest.now < 30 = omega (arith, c.in-None.ensures.steps.1.0, c.loop-bytes.invariant.size) in
    sym (c.loop-bytes.invariant.decided ∙ left_unordered _ _ l _ c.if-not-rise.true)

pub returns : goal.returns
returns c =
    let l : length c.loop-bytes.bytes-iterator.rest.now < 30 = omega (arith, c.in-None.ensures.steps.1.0, c.loop-bytes.invariant.size) in
    sym (c.loop-bytes.invariant.decided ∙ left_ordered _ _ l _ c.if-not-rise.false)
