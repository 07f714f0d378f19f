-- The sine's series at X / D: it is odd, it is the same fraction over a larger denominator, and it moves slowly up to 79/50, which is just above
-- pi/2. The first two are equations of polynomials. For the last, a power moves by at most its slope at the bound, and the terms' slopes are added up.
-- Assumes nothing.
use mathlib.Core.Path.{◌≡◌, refl, sym, ◌∙◌, ap, ap₂}
use Prim.Native.Nat.{ℕ, zero, suc, ◌+◌, ◌*◌, ◌-◌, ◌/◌, ◌^◌, ◌≤◌}
use native.Mathlib.Nat as N
use native.Mathlib.Nat.{le_trans, le_of_eq}
use native.Mathlib.Omega.{arith}
use lib.IntN.{ℤ, pos, neg_ℤ, ◌*ℤ◌, nat_abs, pow, one}
use Rattle.algebra.specs.Integers.{−◌, sumℕ}
use Rattle.algebra.specs.Near.{Near}
use Rattle.sine.specs.Series.{factorial, series_coefficient, series}
use Rattle.algebra.proofs.Integers.{one-mul}
use Rattle.algebra.proofs.Polynomial.{Expr, var, con, ◌⊕◌, ◌⊗◌, neg, ◌↑◌, #, end, ◌▸◌, solve}
use Rattle.algebra.proofs.Ring.{◌▹◌, ring_n, quoteN}
use Rattle.algebra.proofs.Order.{abs_mul}
use Rattle.algebra.proofs.Near.{near_as, near_wide, near_mul, near_sum}

-- the series as an expression
abbrev sum_e : ℕ → (ℕ → Expr) → Expr
sum_e zero f = # 0
sum_e (suc n) f = sum_e n f ⊕ f n

abbrev pub series_e : Expr → Expr → Expr
series_e X D = sum_e 12 (λ k. con (− 1) ↑ k ⊗ D ↑ (22 - 2 * k) ⊗ # (factorial 23 / factorial (suc (2 * k))) ⊗ X ↑ suc (2 * k))

pub series_odd : (X D : ℤ) → series (neg_ℤ X) D ≡ neg_ℤ (series X D)
series_odd X D = solve (series_e (neg (var 0)) (var 1)) (neg (series_e (var 0) (var 1))) (X ▸ D ▸ end) tt

-- the same point over a larger denominator
pub series_scale : (c X D : ℤ) → series (c *ℤ X) (c *ℤ D) ≡ pow c 23 *ℤ series X D
series_scale c X D = solve (series_e (var 0 ⊗ var 1) (var 0 ⊗ var 2)) (var 0 ↑ 23 ⊗ series_e (var 1) (var 2)) (c ▸ X ▸ D ▸ end) tt

-- ---- how fast it moves

pub abs_pow : (x : ℤ) (n : ℕ) → nat_abs (pow x n) ≡ nat_abs x ^ n
unfolding pow one
abs_pow x zero = sym (N.pow-zero (nat_abs x))
abs_pow x (suc n) = abs_mul (pow x n) x ∙ ap (λ (k : ℕ). k * nat_abs x) (abs_pow x n) ∙ sym (N.pow-suc (nat_abs x) n)

pub near_pow : (B : ℕ) {x y : ℤ} {e : ℕ} → nat_abs x ≤ B → nat_abs y ≤ B → Near x y e → (n : ℕ) → Near (pow x (suc n)) (pow y (suc n)) (suc n * B ^ n * e)
unfolding pow one
near_pow B {x} {y} {e} bx by n zero = near_as n (one-mul x) (one-mul y) (le_of_eq (sym (N.one-mul e) ∙ ap (λ (k : ℕ). 1 * k * e) (sym (N.pow-zero B))))
near_pow B {x} {y} {e} bx by n (suc m) =
    near_wide (near_mul B (B ^ suc m) by (le_trans (le_of_eq (abs_pow x (suc m))) (N.pow-le-pow_left bx (suc m))) (near_pow B bx by n m) n)
    (le_of_eq (ap (λ (k : ℕ). suc m * B ^ m * e * B + k * e) (N.pow-suc B m) ∙ alg (B ^ m) m ∙ ap (λ (k : ℕ). suc (suc m) * k * e) (sym (N.pow-suc B m))))
  where
    alg : (P m : ℕ) → suc m * P * e * B + P * B * e ≡ suc (suc m) * (P * B) * e
    alg P m = omega arith

one_pow : (n : ℕ) → 1 ^ n ≡ 1
one_pow zero = refl
one_pow (suc n) = N.pow-suc 1 n ∙ N.mul-one (1 ^ n) ∙ one_pow n

weight : ℕ → ℕ → ℕ
weight D k = D ^ (22 - 2 * k) * (factorial 23 / factorial (suc (2 * k)))

coefficient_abs : (D k : ℕ) → nat_abs (series_coefficient (pos D) k) ≤ weight D k
unfolding weight
coefficient_abs D k = le_of_eq (abs_mul (pow (− 1) k *ℤ pow (pos D) (22 - 2 * k)) (pos (factorial 23 / factorial (suc (2 * k))))
    ∙ ap (λ (t : ℕ). t * (factorial 23 / factorial (suc (2 * k)))) (abs_mul (pow (− 1) k) (pow (pos D) (22 - 2 * k)) ∙ ap₂ ◌*◌ (abs_pow (− 1) k ∙ one_pow k) (abs_pow (pos D) (22 - 2 * k)) ∙ N.one-mul (D ^ (22 - 2 * k))))

-- the sum of the terms' slopes at 79/50, times 50^22 * 23!
abbrev pub slope_sum : ℕ
slope_sum = 1559677965465106264583844658404310854796530943902776565087743

slope_sum_lem : (C e : ℕ) → sumℕ 12 (λ k. weight (50 * C) k * (suc (2 * k) * (79 * C) ^ (2 * k) * e)) ≡ slope_sum * (C ^ 22 * e)
unfolding weight
slope_sum_lem C e = ring_n (C ▹ e ▹ end) (search quoteN depth 60 fits 9000) tt

pub series_moves : (C e : ℕ) (X Y : ℤ) → nat_abs X ≤ 79 * C → nat_abs Y ≤ 79 * C → Near X Y e
    → Near (series X (pos (50 * C))) (series Y (pos (50 * C))) (slope_sum * (C ^ 22 * e))
series_moves C e X Y bX bY n =
    near_wide (near_sum 12 (series_coefficient (pos (50 * C))) (λ k. pow X (suc (2 * k))) (λ k. pow Y (suc (2 * k))) (weight (50 * C)) (λ k. suc (2 * k) * (79 * C) ^ (2 * k) * e) (coefficient_abs (50 * C)) (λ k l. near_pow (79 * C) bX bY n (2 * k)))
    (le_of_eq (slope_sum_lem C e))
