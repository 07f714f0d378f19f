-- The instant's cases stand before those of its moment, so the code may hand its refusal on.
use Rattle.std.proofs.Common.{◌≡◌, refl, ◌∙◌, ap, sym, arith, rules, ℕ, ℤ}
use Rattle.std.proofs.lemmas.Result.{err_from_is_err_and}
use Rattle.instants.specs.Instants.{instant_cases, acceptance}
use Rattle.instants.specs.Moments.{moment}
use Rattle.instants.proofs.FirstRefusal.{handed_on}
use Rattle.instants.proofs.Accepted.{AcceptedAt, accepted_at}
use Rattle.utc.specs.Conversions.{utc_of}
use Rattle.utc.specs.Inner.{reading_answer}
use Rattle.utc.proofs.to_utc.Goals as goal
use Rattle.std.specs.Prelude.{Result, Ok, Err}
use Rattle.utc.specs.declared.Reading.{Reading}
use Rattle.instants.specs.declared.refusal.Refusal.{Refusal}

-- the answer by that of the acceptance
abbrev by_day : ℕ → Result ℕ Refusal → Result Reading Refusal
by_day m (Ok i) = reading_answer i (moment i m)
by_day m (Err n) = Err n

matched : (d : ℤ) (m : ℕ) → by_day m (acceptance d m) ≡ utc_of d m
unfolding acceptance reading_answer utc_of
matched d m = handed_on Err (by_day m) (λ k. refl) (instant_cases d m) _

pub moment-requires-clause-index : goal.moment-requires-clause-index
moment-requires-clause-index c =
    let e : c.accept.result ≡ Ok c.in_ok-index.index = search rules in
    let found : acceptance c.args.t.day c.args.t.micros ≡ Ok c.in_ok-index.index = sym c.accept.ensures ∙ e in
    omega (arith, (accepted_at _ _ _ found).high)

pub moment-requires-clause-micros : goal.moment-requires-clause-micros
moment-requires-clause-micros c =
    let e : c.accept.result ≡ Ok c.in_ok-index.index = search rules in
    let found : acceptance c.args.t.day c.args.t.micros ≡ Ok c.in_ok-index.index = sym c.accept.ensures ∙ e in
    (accepted_at _ _ _ found).less

pub reading_on-requires : goal.reading_on-requires
reading_on-requires c =
    let e : c.accept.result ≡ Ok c.in_ok-index.index = search rules in
    let found : acceptance c.args.t.day c.args.t.micros ≡ Ok c.in_ok-index.index = sym c.accept.ensures ∙ e in
    let k : AcceptedAt c.args.t.day c.args.t.micros c.in_ok-index.index = accepted_at _ _ _ found in
    let m = c.moment.ensures in
    record { covered = omega (arith, k.high); from = omega (arith, m); to = omega (arith, m, k.less) }

pub returns-in_err-index : goal.returns-in_err-index
returns-in_err-index c =
    let p = err_from_is_err_and c.from_residual.result c.from_residual.ensures.1 in
    let e : c.accept.result ≡ Err c.in_err-index.field-0.0 = search rules in
    let found : acceptance c.args.t.day c.args.t.micros ≡ Err c.in_err-index.field-0.0 = sym c.accept.ensures ∙ e in
    rw (← matched, found, p.1, p.2) refl

pub returns : goal.returns
returns c =
    let e : c.accept.result ≡ Ok c.in_ok-index.index = search rules in
    let found : acceptance c.args.t.day c.args.t.micros ≡ Ok c.in_ok-index.index = sym c.accept.ensures ∙ e in
    rw (← matched, found) (c.reading_on.ensures ∙ ap (reading_answer c.in_ok-index.index) c.moment.ensures)
