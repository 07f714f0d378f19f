-- The date's cases stand before those of the time, so the code may hand the date's refusal on.
use Rattle.std.proofs.Common.{◌≡◌, refl, ◌∙◌, ap, sym, arith, rules, w64, ℕ, ℤ}
use mir.Facts.{to_z-of_z}
use Rattle.std.proofs.lemmas.Result.{err_from_is_err_and}
use Rattle.instants.specs.Refusals.{refused_or}
use Rattle.instants.specs.Instants.{instant, day_at_index}
use Rattle.instants.proofs.FirstRefusal.{handed_on}
use Rattle.calendar.specs.Dates.{date, date_index, date_cases}
use Rattle.calendar.specs.Times.{time_cases, instant_of}
use Rattle.calendar.specs.Inner.{date_acceptance, time_acceptance}
use Rattle.calendar.proofs.Inverse.{date_at}
use Rattle.calendar.proofs.instant_of.Goals as goal
use Rattle.std.specs.Prelude.{Result, Ok, Err}
use Rattle.instants.specs.declared.Instant.{Instant}
use Rattle.instants.specs.declared.refusal.Refusal.{Refusal}

-- the answer by those of the acceptances: the date's refusal comes first
abbrev on_day : ℕ → Result ℕ Refusal → Result Instant Refusal
on_day i (Ok u) = Ok (instant (day_at_index i) u)
on_day i (Err k) = Err k

abbrev by_date : Result ℕ Refusal → Result ℕ Refusal → Result Instant Refusal
by_date (Ok i) time = on_day i time
by_date (Err n) time = Err n

matched : (y m d h n s u : ℕ) → by_date (date_acceptance y m d) (time_acceptance 59 h n s u) ≡ instant_of y m d h n s u
unfolding date_acceptance time_acceptance instant_of
matched y m d h n s u =
    handed_on Err (λ (a : (Result ℕ Refusal)). by_date a (time_acceptance 59 h n s u)) (λ k. refl) (date_cases y m d) (Ok (date_index (date y m d)))
    ∙ ap (refused_or Err (date_cases y m d)) (handed_on Err (on_day (date_index (date y m d))) (λ k. refl) (time_cases 59 h n s u) _)

pub day_at_index-requires : goal.day_at_index-requires
day_at_index-requires c =
    let e : c.accept.result ≡ Ok c.in_ok-index.index = search rules in
    omega (arith, (date_at _ _ _ _ (sym c.accept.ensures ∙ e)).high)

pub returns-in_err-index : goal.returns-in_err-index
returns-in_err-index c =
    let p = err_from_is_err_and c.from_residual.result c.from_residual.ensures.1 in
    let e : c.accept.result ≡ Err c.in_err-index.field-0.0 = search rules in
    rw (← matched, ← c.accept.ensures, e, p.1, p.2) refl

pub returns-in_err-micros : goal.returns-in_err-micros
returns-in_err-micros c =
    let p = err_from_is_err_and c.from_residual-in_err-micros.result c.from_residual-in_err-micros.ensures.1 in
    let e : c.accept.result ≡ Ok c.in_ok-index.index = search rules in
    let f : c.accept-2.result ≡ Err c.in_err-micros.field-0.0 = search rules in
    rw (← matched, ← c.accept.ensures, e, ← c.accept-2.ensures, f, p.1, p.2) refl

pub returns : goal.returns
returns c =
    let e : c.accept.result ≡ Ok c.in_ok-index.index = search rules in
    let f : c.accept-2.result ≡ Ok c.in_ok-micros.micros = search rules in
    rw (← matched, ← c.accept.ensures, e, ← c.accept-2.ensures, f)
    (ap (λ (d : ℤ). Ok (instant d c.in_ok-micros.micros)) (to_z-of_z {w = w64} (search rules) ∙ c.day_at_index.ensures))
