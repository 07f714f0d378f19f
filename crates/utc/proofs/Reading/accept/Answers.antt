-- The date's cases stand before those of the time, and both before those of the list, so the code may hand refusals on.
use Rattle.std.proofs.Common.{◌≡◌, refl, ◌∙◌, ap, sym, arith, rules, ℕ}
use Rattle.std.proofs.lemmas.Result.{err_from_is_err_and}
use Rattle.instants.specs.Refusals.{refused_or}
use Rattle.instants.proofs.FirstRefusal.{handed_on}
use Rattle.calendar.specs.Dates.{date_cases}
use Rattle.calendar.specs.Times.{time_cases}
use Rattle.calendar.specs.Inner.{date_acceptance, time_acceptance}
use Rattle.calendar.proofs.Inverse.{date_at}
use Rattle.utc.specs.Readings.{reading_index, last_second}
use Rattle.utc.specs.Inner.{covered_time, reading_acceptance}
use Rattle.utc.specs.declared.Reading.{Reading}
use Rattle.utc.proofs.Reading.accept.Goals as goal
use Rattle.std.specs.Prelude.{Result, Ok, Err}
use Rattle.utc.specs.declared.UtcTime.{UtcTime}
use Rattle.instants.specs.declared.refusal.Refusal.{Refusal}

-- the answer by those of the acceptances
abbrev on_day : ℕ → Result ℕ Refusal → Result UtcTime Refusal
on_day i (Ok u) = covered_time i u
on_day i (Err k) = Err k

abbrev time_on : ℕ → Reading → Result ℕ Refusal
time_on i r = time_acceptance (last_second i r.hour r.minute) r.hour r.minute r.second r.microsecond

abbrev by_date : Reading → Result ℕ Refusal → Result UtcTime Refusal
by_date r (Ok i) = on_day i (time_on i r)
by_date r (Err n) = Err n

matched : (r : Reading) → by_date r (date_acceptance r.year r.month r.day) ≡ reading_acceptance r
unfolding date_acceptance time_acceptance covered_time reading_acceptance
matched r =
    let times = time_cases (last_second (reading_index r) r.hour r.minute) r.hour r.minute r.second r.microsecond in
    handed_on Err (by_date r) (λ k. refl) (date_cases r.year r.month r.day) (Ok (reading_index r))
    ∙ ap (refused_or Err (date_cases r.year r.month r.day)) (handed_on Err (on_day (reading_index r)) (λ k. refl) times _)

pub last_second-requires : goal.last_second-requires
last_second-requires c =
    let e : c.accept.result ≡ Ok c.in_ok-index.index = search rules in
    omega (arith, (date_at _ _ _ _ (sym c.accept.ensures ∙ e)).high)

pub returns-in_err-index : goal.returns-in_err-index
returns-in_err-index c =
    let p = err_from_is_err_and c.from_residual.result c.from_residual.ensures.1 in
    let e : c.accept.result ≡ Err c.in_err-index.field-0.0 = search rules in
    rw (← matched, ← c.accept.ensures, e, p.1, p.2) refl

pub returns-in_err-micros : goal.returns-in_err-micros
returns-in_err-micros c =
    let p = err_from_is_err_and c.from_residual-in_err-micros.result c.from_residual-in_err-micros.ensures.1 in
    let e : c.accept.result ≡ Ok c.in_ok-index.index = search rules in
    let f : c.accept-2.result ≡ Err c.in_err-micros.field-0.0 = search rules in
    rw (← matched, ← c.accept.ensures, e, ← c.last_second.ensures.second, ← c.accept-2.ensures, f, p.1, p.2) refl

pub returns : goal.returns
returns c =
    let e : c.accept.result ≡ Ok c.in_ok-index.index = search rules in
    let f : c.accept-2.result ≡ Ok c.in_ok-micros.micros = search rules in
    rw (← matched, ← c.accept.ensures, e, ← c.last_second.ensures.second, ← c.accept-2.ensures, f) c.covered.ensures
