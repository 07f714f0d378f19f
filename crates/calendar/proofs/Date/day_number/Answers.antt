-- A date is refused by the same cases as its index, and an accepted one has the day number of that index.
use Rattle.std.proofs.Common.{◌≡◌, refl, ◌∙◌, ap, sym, arith, rules, w64, ℕ}
use mir.Facts.{to_z-of_z}
use Rattle.std.proofs.lemmas.Result.{err_from_is_err_and}
use Rattle.instants.specs.Instants.{day_at_index}
use Rattle.instants.proofs.FirstRefusal.{handed_on}
use Rattle.calendar.specs.Dates.{date_cases, day_of}
use Rattle.calendar.specs.Inner.{date_acceptance}
use Rattle.calendar.proofs.Inverse.{date_at}
use Rattle.calendar.proofs.Date.day_number.Goals as goal
use Rattle.std.specs.Prelude.{ℤ, Result, Ok, Err}
use Rattle.instants.specs.declared.refusal.Refusal.{Refusal}

-- the answer by that of the acceptance
abbrev day_by : Result ℕ Refusal → Result ℤ Refusal
day_by (Ok i) = Ok (day_at_index i)
day_by (Err n) = Err n

matched : (y m d : ℕ) → day_by (date_acceptance y m d) ≡ day_of y m d
unfolding date_acceptance day_of
matched y m d = handed_on Err day_by (λ k. refl) (date_cases y m d) _

pub day_at_index-requires : goal.day_at_index-requires
day_at_index-requires c =
    let e : c.accept.result ≡ Ok c.in_ok-index.index = search rules in
    omega (arith, (date_at _ _ _ _ (sym c.accept.ensures ∙ e)).high)

pub returns-in_err-index : goal.returns-in_err-index
returns-in_err-index c =
    let p = err_from_is_err_and c.from_residual.result c.from_residual.ensures.1 in
    let e : c.accept.result ≡ Err c.in_err-index.field-0.0 = search rules in
    rw (← matched, ← c.accept.ensures, e, p.1, p.2) refl

pub returns : goal.returns
returns c =
    let e : c.accept.result ≡ Ok c.in_ok-index.index = search rules in
    rw (← matched, ← c.accept.ensures, e) (ap Ok (to_z-of_z {w = w64} (search rules) ∙ c.day_at_index.ensures))
