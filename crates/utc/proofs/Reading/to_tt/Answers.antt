-- A reading is refused by the same cases as its time, and an accepted one has the instant of that time.
use Rattle.std.proofs.Common.{◌≡◌, refl, ◌∙◌, ap, sym, rules}
use Rattle.std.proofs.lemmas.Result.{err_from_is_err_and}
use Rattle.instants.proofs.FirstRefusal.{handed_on}
use Rattle.utc.specs.Readings.{reading_cases}
use Rattle.utc.specs.Conversions.{tt_at, tt_of}
use Rattle.utc.specs.Inner.{reading_acceptance}
use Rattle.utc.specs.declared.Reading.{Reading}
use Rattle.utc.proofs.Readings.{accepted_small}
use Rattle.utc.proofs.Reading.to_tt.Goals as goal
use Rattle.std.specs.Prelude.{Result, Ok, Err}
use Rattle.instants.specs.declared.Instant.{Instant}
use Rattle.utc.specs.declared.UtcTime.{UtcTime}
use Rattle.instants.specs.declared.refusal.Refusal.{Refusal}

-- the answer by that of the acceptance
abbrev by_time : Result UtcTime Refusal → Result Instant Refusal
by_time (Ok t) = Ok (tt_at t.index t.micros)
by_time (Err n) = Err n

matched : (r : Reading) → by_time (reading_acceptance r) ≡ tt_of r
unfolding reading_acceptance tt_of
matched r = handed_on Err by_time (λ k. refl) (reading_cases r) _

pub tt-requires-clause-index : goal.tt-requires-clause-index
tt-requires-clause-index c =
    let e : c.accept.result ≡ Ok c.in_ok-time.time = search rules in
    (accepted_small _ _ (sym c.accept.ensures ∙ e)).0

pub tt-requires-clause-micros : goal.tt-requires-clause-micros
tt-requires-clause-micros c =
    let e : c.accept.result ≡ Ok c.in_ok-time.time = search rules in
    (accepted_small _ _ (sym c.accept.ensures ∙ e)).1

pub returns-in_err-time : goal.returns-in_err-time
returns-in_err-time c =
    let p = err_from_is_err_and c.from_residual.result c.from_residual.ensures.1 in
    let e : c.accept.result ≡ Err c.in_err-time.field-0.0 = search rules in
    rw (← matched, ← c.accept.ensures, e, p.1, p.2) refl

pub returns : goal.returns
returns c =
    let e : c.accept.result ≡ Ok c.in_ok-time.time = search rules in
    rw (← matched, ← c.accept.ensures, e) (ap Ok c.tt.ensures)
