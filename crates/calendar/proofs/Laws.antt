-- Laws of the calendar's definitions. A leap year by its three tests; the days of k years by quotients, since from a year to the next each quotient
-- moves where that year passes its test. Assumes nothing.
use Prim.Native.Nat.{ℕ, zero, suc, ◌+◌, ◌-◌, ◌*◌, ◌/◌, ◌%◌, ◌≤◌}
use mathlib.Core.Path.{◌≡◌, refl}
use mathlib.Core.Bool.{Bool, true, false, cond, not, ◌&&◌, ◌||◌}
use native.Mathlib.Omega.{arith}
use lib.Dec.{eqb}
use borrow.Author.Tests.{eqb-true, eqb-false}
use Rattle.calendar.specs.Dates.{leap_year, month_lengths, sum, year_length, days_of_years}
use Rattle.calendar.specs.Inner.{leap_day}

-- What the three tests of a leap year say.
pub data Leap (y : ℕ) : ℕ → Type 0 where
  not4 : (y % 4 ≡ 0 → ⊥) → Leap y 0
  not100 : y % 4 ≡ 0 → (y % 100 ≡ 0 → ⊥) → Leap y 1
  not400 : y % 100 ≡ 0 → (y % 400 ≡ 0 → ⊥) → Leap y 0
  by400 : y % 400 ≡ 0 → Leap y 1

leap_of : (y : ℕ) (a b c : Bool) → eqb (y % 4) 0 ≡ a → eqb (y % 100) 0 ≡ b → eqb (y % 400) 0 ≡ c → Leap y (cond (a && (not b || c)) 1 0)
leap_of y false b c p q r = not4 (eqb-false (y % 4) 0 p)
leap_of y true false c p q r = not100 (eqb-true (y % 4) 0 p) (eqb-false (y % 100) 0 q)
leap_of y true true false p q r = not400 (eqb-true (y % 100) 0 q) (eqb-false (y % 400) 0 r)
leap_of y true true true p q r = by400 (eqb-true (y % 400) 0 r)

pub leap_cases : (y : ℕ) → Leap y (leap_day y)
unfolding leap_year leap_day
leap_cases y = leap_of y (eqb (y % 4) 0) (eqb (y % 100) 0) (eqb (y % 400) 0) refl refl refl

length_by : (b : Bool) → sum (month_lengths b) ≡ 365 + cond b 1 0
unfolding sum month_lengths
length_by true = refl
length_by false = refl

pub year_length_lem : (y : ℕ) → year_length y ≡ 365 + leap_day y
unfolding year_length leap_day
year_length_lem y = length_by (leap_year y)

-- The days of k years, counted by leap days.
abbrev pub counted : ℕ → ℕ
counted k = 365 * k + (k + 3) / 4 + (k + 399) / 400 - (k + 99) / 100

same4 : (k : ℕ) → ((1600 + k) % 4 ≡ 0 → ⊥) → (suc k + 3) / 4 ≡ (k + 3) / 4
same4 k h = omega arith

more4 : (k : ℕ) → (1600 + k) % 4 ≡ 0 → (suc k + 3) / 4 ≡ (k + 3) / 4 + 1
more4 k h = omega arith

same100 : (k : ℕ) → ((1600 + k) % 100 ≡ 0 → ⊥) → (suc k + 99) / 100 ≡ (k + 99) / 100
same100 k h = omega arith

more100 : (k : ℕ) → (1600 + k) % 100 ≡ 0 → (suc k + 99) / 100 ≡ (k + 99) / 100 + 1
more100 k h = omega arith

same400 : (k : ℕ) → ((1600 + k) % 400 ≡ 0 → ⊥) → (suc k + 399) / 400 ≡ (k + 399) / 400
same400 k h = omega arith

more400 : (k : ℕ) → (1600 + k) % 400 ≡ 0 → (suc k + 399) / 400 ≡ (k + 399) / 400 + 1
more400 k h = omega arith

by4 : (y : ℕ) → y % 100 ≡ 0 → y % 4 ≡ 0
by4 y h = omega arith

by100 : (y : ℕ) → y % 400 ≡ 0 → y % 100 ≡ 0
by100 y h = omega arith

-- the arithmetic of a step, with the quotients as they are
sums : (k l a b c a' b' c' : ℕ) → c ≤ 365 * k + a + b → a' + b' + c ≡ a + b + c' + l → 365 * suc k + a' + b' - c' ≡ 365 * k + a + b - c + (365 + l)
sums k l a b c a' b' c' h e = omega arith

few : (k : ℕ) → (k + 99) / 100 ≤ 365 * k + (k + 3) / 4 + (k + 399) / 400
few k = omega arith

step : (k l : ℕ) → Leap (1600 + k) l → counted (suc k) ≡ counted k + (365 + l)
step k l w = sums k l _ _ _ _ _ _ (few k) (turn w)
  where
    turn : {l : ℕ} → Leap (1600 + k) l → (suc k + 3) / 4 + (suc k + 399) / 400 + (k + 99) / 100 ≡ (k + 3) / 4 + (k + 399) / 400 + (suc k + 99) / 100 + l
    turn (not4 p) = rw (same4 k p, same400 k (λ q. p (by4 (1600 + k) (by100 (1600 + k) q))), same100 k (λ q. p (by4 (1600 + k) q))) (omega arith)
    turn (not100 p q) = rw (more4 k p, same400 k (λ r. q (by100 (1600 + k) r)), same100 k q) (omega arith)
    turn (not400 p q) = rw (more4 k (by4 (1600 + k) p), same400 k q, more100 k p) (omega arith)
    turn (by400 p) = rw (more4 k (by4 (1600 + k) (by100 (1600 + k) p)), more400 k p, more100 k (by100 (1600 + k) p)) (omega arith)

pub years_counted : (k : ℕ) → days_of_years k ≡ counted k
unfolding days_of_years
years_counted zero = refl
years_counted (suc k) =
    let h : days_of_years k ≡ counted k = years_counted k in
    let s : counted (suc k) ≡ counted k + (365 + leap_day (1600 + k)) = step k (leap_day (1600 + k)) (leap_cases (1600 + k)) in
    let l : year_length (1600 + k) ≡ 365 + leap_day (1600 + k) = year_length_lem (1600 + k) in
    cc
