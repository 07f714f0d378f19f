-- A reading is refused by the same cases as its time, and both parts of an accepted one are of that time.
use Rattle.std.proofs.Common.{◌≡◌, refl, ◌∙◌, ap, sym, arith, rules}
use Rattle.std.proofs.lemmas.Result.{err_from_is_err_and}
use Rattle.instants.specs.declared.Instant.{Instant}
use Rattle.instants.proofs.FirstRefusal.{handed_on}
use Rattle.utc.specs.Readings.{reading_index, reading_micros, reading_cases}
use Rattle.utc.specs.Conversions.{tt_at}
use Rattle.utc.specs.PhaseInstants.{PhaseInstant}
use Rattle.utc.specs.Inner.{reading_acceptance, parts, parts_of, phase_answer}
use Rattle.utc.specs.declared.Reading.{Reading}
use Rattle.utc.specs.declared.UtcTime.{UtcTime}
use Rattle.utc.specs.declared.PhaseParts.{PhaseParts}
use Rattle.utc.proofs.Readings.{accepted_small}
use Rattle.utc.proofs.PhaseInstants.{in_cases, tt_is, phase_is}
use Rattle.utc.proofs.Reading.phase_parts.Goals as goal
use Rattle.std.specs.Prelude.{Result, Ok, Err}
use Rattle.instants.specs.declared.refusal.Refusal.{Refusal}

-- the answer by that of the acceptance
abbrev by_time : Result UtcTime Refusal → Result PhaseParts Refusal
by_time (Ok t) = Ok (record { tt = tt_at t.index t.micros; utc = t })
by_time (Err n) = Err n

-- both parts are of the reading's time
same : (r : Reading) (p : PhaseInstant) → p.utc ≡ r → parts_of p ≡ parts (tt_at (reading_index r) (reading_micros r)) r
same r p e = ap (λ (i : Instant). parts i p.utc) (tt_is p) ∙ ap (λ (r : Reading). parts (tt_at (reading_index r) (reading_micros r)) r) e

matched : (r : Reading) → by_time (reading_acceptance r) ≡ phase_answer r
unfolding reading_acceptance
matched r = handed_on Err by_time (λ k. refl) (reading_cases r) _ ∙ (sym (in_cases Err (λ p. Ok (parts_of p)) r _ (λ p e. ap Ok (same r p e))) ∙ phase_is r)

pub tt-requires-clause-index : goal.tt-requires-clause-index
tt-requires-clause-index c =
    let e : c.accept.result ≡ Ok c.in_ok-utc.utc = search rules in
    (accepted_small _ _ (sym c.accept.ensures ∙ e)).0

pub tt-requires-clause-micros : goal.tt-requires-clause-micros
tt-requires-clause-micros c =
    let e : c.accept.result ≡ Ok c.in_ok-utc.utc = search rules in
    omega (arith, (accepted_small _ _ (sym c.accept.ensures ∙ e)).1)

pub returns-in_err-utc : goal.returns-in_err-utc
returns-in_err-utc c =
    let p = err_from_is_err_and c.from_residual.result c.from_residual.ensures.1 in
    let e : c.accept.result ≡ Err c.in_err-utc.field-0.0 = search rules in
    rw (← matched, ← c.accept.ensures, e, p.1, p.2) refl

pub returns : goal.returns
returns c =
    let e : c.accept.result ≡ Ok c.in_ok-utc.utc = search rules in
    rw (← matched, ← c.accept.ensures, e) (ap (λ (i : Instant). Ok (record { tt = i; utc = c.in_ok-utc.utc })) c.tt.ensures)
