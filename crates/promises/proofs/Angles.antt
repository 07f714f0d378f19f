-- Demand 2 holds of the angles, by the theorems of service (j); single days are computed. The refusals of demand 1 in figures: where a year passes its test,
-- it is a leap year exactly when it is a fourth one and not 2100.
use mathlib.Core.Path.{◌≡◌, refl, ap, sym, ◌∙◌}
use mathlib.Core.Bool.{Bool, true, false, cond, not, ◌&&◌, ◌||◌}
use mathlib.Core.List.{List, [], ◌∷◌}
use Prim.Native.Nat.{ℕ, ◌+◌, ◌-◌, ◌%◌, ◌≤◌}
use native.Mathlib.Omega.{arith}
use borrow.Author.Tests.{eqb-true, eqb-false, ne_eqb}
use lib.Dec.{ltb, eqb}
use lib.IntN.{pos}
use lib.Ieee as Ieee
use lib.Ieee.{Float, add, sub, mul, div, neg, rem, round, lt, le, eq, of_int, to_unsigned}
use Rattle.instants.specs.Refusals as named
use Rattle.instants.specs.Refusals.{number}
use Rattle.promises.specs.Figures.{first_refusal}
use Rattle.instants.proofs.FirstRefusal.{Refused, handed_on, first_none, none_answered, refused_first}
use Rattle.instants.proofs.Accepted.{between}
use Rattle.calendar.specs.Dates.{leap_year, month_lengths, sum, year_length}
use Rattle.binary64.specs.Words.{whole, zero64, decimal64}
use Rattle.binary64.specs.Reduction.{raised, settled, reduced}
use Rattle.schwiderski.specs.declared.Angles.{Angles}
use Rattle.schwiderski.specs.Formula.{two_pi, degree, whole_day, seconds, leap_days, day_count, centuries, sun, moon, perigee, longitudes, angle_sum, sums, reduced_each, angles_of}
use Rattle.schwiderski.specs.Service.{in_year, angles_cases, schwiderski_of, angles_or, angle_of, angles_refusal_of}
use Rattle.schwiderski.proofs.Promises.{accepted_answered, answered_accepted, angles_in_range, nothing_lost, days_counted}
use Rattle.schwiderski.proofs.Published.{published}
use Rattle.promises.specs.AnyInput.{refusal1_angles, refusal26, eleven}
use Rattle.promises.specs.Angles.{AnglesExactly}
use Rattle.std.specs.Prelude.{Ok, Err}
use Rattle.instants.specs.declared.refusal.Refusal.TheVariants.{DayOfYear}

-- ---- demand 1
pub handed_angles : (y : ℕ) (d : Float) → angles_refusal_of (schwiderski_of y d) ≡ named.first_refusal (angles_cases y d)
unfolding schwiderski_of
handed_angles y d = handed_on Err angles_refusal_of (λ n. refl) (angles_cases y d) _

-- the leap years of a century and a quarter
leap_in_figures : (y : ℕ) → 1974 ≤ y → y ≤ 2100 → leap_year y ≡ eqb (y % 4) 0 && not (eqb y 2100)
unfolding leap_year
leap_in_figures y h k = by (eqb (y % 100) 0) refl
  where
    last : (q : Bool) → eqb y 2100 ≡ q → y % 100 ≡ 0 → eqb (y % 400) 0 ≡ not (eqb y 2100)
    last true e z = rw (eqb-true y 2100 e) refl
    last false e z = let f : y ≡ 2000 = other (eqb-false y 2100 e) z in rw f refl
      where
        other : (y ≡ 2100 → ⊥) → y % 100 ≡ 0 → y ≡ 2000
        other n z = omega (arith, n)

    by : (p : Bool) → eqb (y % 100) 0 ≡ p → eqb (y % 4) 0 && (not p || eqb (y % 400) 0) ≡ eqb (y % 4) 0 && not (eqb y 2100)
    by true e = ap (λ (b : Bool). eqb (y % 4) 0 && b) (last (eqb y 2100) refl (eqb-true (y % 100) 0 e))
    by false e = rw (ne_eqb y 2100 (λ f. eqb-false (y % 100) 0 e (ap (λ (z : ℕ). z % 100) f))) refl

-- the days of a year, and 1
ends : (b : Bool) → sum (month_lengths b) + 1 ≡ cond b 367 366
unfolding sum month_lengths
ends true = refl
ends false = refl

pub angles : (y : ℕ) (d : Float) → angles_refusal_of (schwiderski_of y d) ≡ first_refusal (refusal1_angles y ∷ refusal26 y d ∷ [])
unfolding in_year year_length number
angles y d = handed_angles y d ∙ by (ltb y 1974 || ltb 2100 y) refl
  where
    by : (p : Bool) → (ltb y 1974 || ltb 2100 y) ≡ p
        → cond p 1 (named.first_refusal (named.case DayOfYear (not (in_year y d)) ∷ [])) ≡ cond p 1 (first_refusal (refusal26 y d ∷ []))
    by true e = refl
    by false e =
        let b = between y 1974 2100 e in
        ap (λ (n : ℕ). named.first_refusal (named.case DayOfYear (not (le (whole (pos 1)) d && lt d (whole (pos n)))) ∷ [])) (ends (leap_year y) ∙ ap (λ (l : Bool). cond l 367 366) (leap_in_figures y b.0 b.1))

module _ (y : ℕ) (d : Float) where
  answered : angles_refusal_of (schwiderski_of y d) ≡ 0 → schwiderski_of y d ≡ Ok (angles_of (y - 1900) d)
  unfolding schwiderski_of
  answered z = none_answered Err (angles_cases y d) _ (first_none (angles_cases y d) (sym (handed_angles y d) ∙ z))

  refused : (angles_refusal_of (schwiderski_of y d) ≡ 0 → ⊥) → Refused Err (angles_cases y d) (schwiderski_of y d)
  unfolding schwiderski_of
  refused h = refused_first Err (angles_cases y d) _ (λ z. h (handed_angles y d ∙ z))

  pub angles_same : angles_refusal_of (schwiderski_of y d) ≡ 0 → (old : List Float) → angles_or old (schwiderski_of y d) ≡ eleven (schwiderski_of y d)
  angles_same z old = ap (angles_or old) (answered z) ∙ sym (ap eleven (answered z))

  pub angles_zeroed : (angles_refusal_of (schwiderski_of y d) ≡ 0 → ⊥) → (which : Angles → Float) → angle_of which (schwiderski_of y d) ≡ zero64
  angles_zeroed h which = ap (angle_of which) (refused h).refused

  pub angles_kept : (angles_refusal_of (schwiderski_of y d) ≡ 0 → ⊥) → (old : List Float) → angles_or old (schwiderski_of y d) ≡ old
  angles_kept h old = ap (angles_or old) (refused h).refused

-- ---- demand 2
-- PROMISE. Demand 2, of service (j).
pub angles_exactly : AnglesExactly
angles_exactly = record {
  accepted_angles = accepted_answered;
  answered_angles = answered_accepted;
  angles_in_range = angles_in_range;
  angle_sums_finite = nothing_lost;
  published_angles = published;
  published_count = unfold day_count leap_days in (refl, refl);
  days_counted = days_counted;
  first_days = unfold number schwiderski_of in_year year_length sum month_lengths leap_year decimal64 of_int round le lt eq in (refl, refl, refl);
  last_days = unfold number schwiderski_of in_year year_length sum month_lengths leap_year decimal64 of_int round le lt eq in (refl, refl, refl, refl, refl);
  no_days = unfold number schwiderski_of in_year year_length sum month_lengths leap_year of_int round le lt eq in (refl, refl, refl, refl);
  a_minus_zero = unfold angles_of reduced_each sums angle_sum longitudes centuries day_count leap_days seconds whole_day sun moon perigee degree two_pi decimal64 reduced raised settled
      of_int to_unsigned add sub mul div neg Ieee.sum round rem lt eq in (refl, refl);
}
