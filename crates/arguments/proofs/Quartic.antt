-- The distance of an argument. Its polynomial at t = x / N − 5 is expanded in powers of x / N and split by the signs of its coefficients into two
-- halves with natural coefficients u, over the turn T. A half is a constant, a linear part and the nested products of the degrees 2 to 4: each
-- step's error is that of its constant, of the time s with 24 binary places and of its own quotient rounded down (Floor), and the errors add up.
-- Every one is computed from the constants and a bound X of x.
-- Assumes nothing.
use mathlib.Core.Path.{◌≡◌, refl, ◌∙◌, ap}
use Prim.Native.Nat.{ℕ, ◌+◌, ◌*◌, ◌/◌, ◌^◌, ◌≤◌}
use native.Mathlib.Nat as Nat
use native.Mathlib.Nat.{le_trans, add-le-add, mul-le-mul}
use lib.Dec.{lit≤}
use native.Mathlib.Omega.{arith}
use lib.IntN.{ℤ, pos, ◌+ℤ◌, ◌-ℤ◌, ◌*ℤ◌, pow}
use Rattle.algebra.specs.Integers.{−◌, dist}
use Rattle.algebra.specs.Near.{Near}
use Rattle.algebra.proofs.Ring.{end, ◌▸◌, ◌▹◌, ring, quote, ring_n, quoteN}
use Rattle.algebra.proofs.Order.{plus, minus, parts}
use Rattle.algebra.proofs.Near.{ℕ-near, near_dist, near_as, near_add, near_scale, near_unscale}
use Rattle.arguments.specs.declared.half.Half.{Half}
use Rattle.arguments.specs.Exact.{Polynomial, value}
use Rattle.arguments.specs.Ours.{high, per_century, term₃, term₂, term₁, term₀, half_at}
use Rattle.arguments.proofs.Floor.{high_error, high_near, step_error, step_near}

pub record Naturals : Type 0 where
  pub u₀ : ℕ
  pub u₁ : ℕ
  pub u₂ : ℕ
  pub u₃ : ℕ
  pub u₄ : ℕ

-- the exact numerators of the nested sum, from the inside: 2^51 turns, over T, N T, N² T
abbrev pub num₄ : Naturals → ℕ
num₄ u = 2 ^ 51 * u.u₄

abbrev pub num₃ : ℕ → Naturals → ℕ → ℕ
num₃ N u x = N * (2 ^ 51 * u.u₃) + x * num₄ u

abbrev pub num₂ : ℕ → Naturals → ℕ → ℕ
num₂ N u x = N * N * (2 ^ 51 * u.u₂) + x * num₃ N u x

-- the polynomial, times N⁴
abbrev pub natural : ℕ → Naturals → ℕ → ℕ
natural N u x = u.u₀ * N ^ 4 + u.u₁ * (N ^ 3 * x) + u.u₂ * (N ^ 2 * x ^ 2) + u.u₃ * (N * x ^ 3) + u.u₄ * x ^ 4

mono₃ : (N : ℕ) (u : Naturals) (x X : ℕ) → x ≤ X → num₃ N u x ≤ num₃ N u X
mono₃ N u x X h = add-le-add (Nat.le_refl (N * (2 ^ 51 * u.u₃))) (Nat.mul-le-mul_right (num₄ u) h)

mono₂ : (N : ℕ) (u : Naturals) (x X : ℕ) → x ≤ X → num₂ N u x ≤ num₂ N u X
mono₂ N u x X h = add-le-add (Nat.le_refl (N * N * (2 ^ 51 * u.u₂))) (mul-le-mul h (mono₃ N u x X h))

-- ---- the distances, computed from a bound X of x

abbrev pub time_error : (N X : ℕ) → ℕ
time_error N X = high_error (2 ^ 64) N X (dist (per_century * N) (2 ^ 64 * 2 ^ 24))

abbrev pub time_bound : (N X : ℕ) → ℕ
time_bound N X = 2 ^ 24 * X + time_error N X

abbrev pub error₄ : (T : ℕ) → Half → Naturals → ℕ
error₄ T k u = dist (k.k4 * T) (2 ^ 51 * u.u₄)

abbrev pub error₃ : (N T X : ℕ) → Half → Naturals → ℕ
error₃ N T X k u = N * dist (k.k3 * T) (2 ^ 51 * u.u₃) + step_error (2 ^ 24) N 1 T (time_error N X) (error₄ T k u) (num₄ u) (time_bound N X)

abbrev pub error₂ : (N T X : ℕ) → Half → Naturals → ℕ
error₂ N T X k u =
    N * N * dist (k.k2 * T) (2 ^ 51 * u.u₂)
    + step_error (2 ^ 24) N 1 (1 * N * T) (time_error N X) (error₃ N T X k u) (num₃ N u X) (time_bound N X)

abbrev pub error₁ : (N T X : ℕ) → Half → Naturals → ℕ
error₁ N T X k u = step_error (2 ^ 24) N (2 ^ 6) (1 * N * (1 * N * T)) (time_error N X) (error₂ N T X k u) (num₂ N u X) (time_bound N X)

abbrev pub error₀ : (N T X : ℕ) → Half → Naturals → ℕ
error₀ N T X k u =
    step_error (2 ^ 24) N (2 ^ 4) (2 ^ 6 * N * (1 * N * (1 * N * T))) (time_error N X) (error₁ N T X k u) (X * num₂ N u X) (time_bound N X)

-- in units of 2^-51 turn, over T N⁴
abbrev pub half_error : (N T X : ℕ) → Half → Naturals → ℕ
half_error N T X k u =
    2 ^ 10 * N ^ 4 * dist (k.a0 * T) (2 ^ 41 * u.u₀)
    + 2 ^ 10 * N ^ 3 * high_error (2 ^ 64) (T * N) X (dist (k.g * (T * N)) (2 ^ 64 * (2 ^ 41 * u.u₁)))
    + error₀ N T X k u

module _ (N T X : ℕ) (k : Half) (u : Naturals) (x : ℕ) (b : x ≤ X) where
  s : ℕ
  s = high x per_century

  s_near : Near (pos (s * N)) (pos (2 ^ 24 * x)) (time_error N X)
  unfolding s
  s_near = high_near (2 ^ 64) N (2 ^ 24) per_century (dist (per_century * N) (2 ^ 64 * 2 ^ 24)) X x (lit≤ tt) b (near_dist (per_century * N) (2 ^ 64 * 2 ^ 24))

  s_bound : s * N ≤ time_bound N X
  s_bound = le_trans (ℕ-near s_near).0 (add-le-add (Nat.mul-le-mul_left (2 ^ 24) b) (Nat.le_refl (time_error N X)))

  near₃ : Near (pos (term₃ k s * (1 * N * T))) (pos (num₃ N u x)) (error₃ N T X k u)
  near₃ = near_as
      (near_add (near_scale (pos N) (near_dist (k.k3 * T) (2 ^ 51 * u.u₃)))
      (step_near (2 ^ 24) N 1 T (time_error N X) (error₄ T k u) (num₄ u) (time_bound N X) s x k.k4 (num₄ u) (lit≤ tt) (lit≤ tt) (Nat.le_refl (num₄ u)) s_bound s_near (near_dist (k.k4 * T) (2 ^ 51 * u.u₄))))
      (ap pos (alg k.k3 (s * k.k4 / 2 ^ 24) N T)) refl (Nat.le_refl (error₃ N T X k u))
    where
      alg : (a q N T : ℕ) → (a + q) * (1 * N * T) ≡ N * (a * T) + q * (1 * N * T)
      alg a q N T = ring_n (a ▹ q ▹ N ▹ T ▹ end) (search quoteN depth 13) tt

  near₂ : Near (pos (term₂ k s * (1 * N * (1 * N * T)))) (pos (num₂ N u x)) (error₂ N T X k u)
  near₂ = near_as
      (near_add (near_scale (pos (N * N)) (near_dist (k.k2 * T) (2 ^ 51 * u.u₂)))
      (step_near (2 ^ 24) N 1 (1 * N * T) (time_error N X) (error₃ N T X k u) (num₃ N u X) (time_bound N X) s x (term₃ k s) (num₃ N u x) (lit≤ tt) (lit≤ tt) (mono₃ N u x X b) s_bound s_near near₃))
      (ap pos (alg k.k2 (s * term₃ k s / 2 ^ 24) N T)) refl (Nat.le_refl (error₂ N T X k u))
    where
      alg : (a q N T : ℕ) → (a + q) * (1 * N * (1 * N * T)) ≡ N * N * (a * T) + q * (1 * N * (1 * N * T))
      alg a q N T = ring_n (a ▹ q ▹ N ▹ T ▹ end) (search quoteN depth 13) tt

  near₁ : Near (pos (term₁ k s * (2 ^ 6 * N * (1 * N * (1 * N * T))))) (pos (x * num₂ N u x)) (error₁ N T X k u)
  near₁ = step_near (2 ^ 24) N (2 ^ 6) (1 * N * (1 * N * T)) (time_error N X) (error₂ N T X k u) (num₂ N u X) (time_bound N X) s x (term₂ k s) (num₂ N u x) (lit≤ tt) (lit≤ tt) (mono₂ N u x X b) s_bound s_near near₂

  near₀ : Near (pos (term₀ k s * (2 ^ 4 * N * (2 ^ 6 * N * (1 * N * (1 * N * T)))))) (pos (x * (x * num₂ N u x))) (error₀ N T X k u)
  near₀ = step_near (2 ^ 24) N (2 ^ 4) (2 ^ 6 * N * (1 * N * (1 * N * T))) (time_error N X) (error₁ N T X k u) (X * num₂ N u X) (time_bound N X) s x (term₁ k s) (x * num₂ N u x) (lit≤ tt) (lit≤ tt) (mul-le-mul b (mono₂ N u x X b)) s_bound s_near near₁

  linear : Near (pos (high x k.g * (T * N))) (pos (2 ^ 41 * u.u₁ * x)) (high_error (2 ^ 64) (T * N) X (dist (k.g * (T * N)) (2 ^ 64 * (2 ^ 41 * u.u₁))))
  linear = high_near (2 ^ 64) (T * N) (2 ^ 41 * u.u₁) k.g (dist (k.g * (T * N)) (2 ^ 64 * (2 ^ 41 * u.u₁))) X x (lit≤ tt) b (near_dist (k.g * (T * N)) (2 ^ 64 * (2 ^ 41 * u.u₁)))

  pub half_near : Near (pos (half_at k x * (2 ^ 10 * (T * N ^ 4)))) (pos (2 ^ 10 * (2 ^ 41 * natural N u x))) (half_error N T X k u)
  unfolding s
  half_near = near_as
      (near_add (near_add (near_scale (pos (2 ^ 10 * N ^ 4)) (near_dist (k.a0 * T) (2 ^ 41 * u.u₀))) (near_scale (pos (2 ^ 10 * N ^ 3)) linear)) near₀)
      (ap pos (left k.a0 (high x k.g) (term₀ k s) N T))
      (ap pos (right u.u₀ u.u₁ u.u₂ u.u₃ u.u₄ N x)) (Nat.le_refl (half_error N T X k u))
    where
      left : (a l q N T : ℕ) → (a + l + q) * (2 ^ 10 * (T * N ^ 4))
          ≡ 2 ^ 10 * N ^ 4 * (a * T) + 2 ^ 10 * N ^ 3 * (l * (T * N)) + q * (2 ^ 4 * N * (2 ^ 6 * N * (1 * N * (1 * N * T))))
      left a l q N T = ring_n (a ▹ l ▹ q ▹ N ▹ T ▹ end) (search quoteN depth 16 fits 9000) tt

      right : (a b c d e N x : ℕ) → 2 ^ 10 * (2 ^ 41 * (a * N ^ 4 + b * (N ^ 3 * x) + c * (N ^ 2 * x ^ 2) + d * (N * x ^ 3) + e * x ^ 4))
          ≡ 2 ^ 10 * N ^ 4 * (2 ^ 41 * a) + 2 ^ 10 * N ^ 3 * (2 ^ 41 * b * x) + x * (x * (N * N * (2 ^ 51 * c) + x * (N * (2 ^ 51 * d) + x * (2 ^ 51 * e))))
      right a b c d e N x = ring_n (a ▹ b ▹ c ▹ d ▹ e ▹ N ▹ x ▹ end) (search quoteN depth 20 fits 9000) tt

-- ---- an argument: its polynomial at x − 5 N, as a difference of two halves

-- the coefficients in powers of x: t = s − 5, expanded
abbrev pub shifted : Polynomial → Polynomial
shifted p = record {
  c₀ = p.c₀ -ℤ pos 5 *ℤ p.c₁ +ℤ pos 25 *ℤ p.c₂ -ℤ pos 125 *ℤ p.c₃ +ℤ pos 625 *ℤ p.c₄;
  c₁ = p.c₁ -ℤ pos 10 *ℤ p.c₂ +ℤ pos 75 *ℤ p.c₃ -ℤ pos 500 *ℤ p.c₄;
  c₂ = p.c₂ -ℤ pos 15 *ℤ p.c₃ +ℤ pos 150 *ℤ p.c₄;
  c₃ = p.c₃ -ℤ pos 20 *ℤ p.c₄;
  c₄ = p.c₄;
}

shift_is : (p : Polynomial) (N x : ℤ) → value N p (x -ℤ pos 5 *ℤ N) ≡ value N (shifted p) x
shift_is p N x = alg p.c₀ p.c₁ p.c₂ p.c₃ p.c₄ N x
  where
    alg : (a b c d e N x : ℤ) → let n = x -ℤ pos 5 *ℤ N in
        a *ℤ pow N 4 +ℤ b *ℤ (pow N 3 *ℤ n) +ℤ c *ℤ (pow N 2 *ℤ pow n 2) +ℤ d *ℤ (N *ℤ pow n 3) +ℤ e *ℤ pow n 4
        ≡ (a -ℤ pos 5 *ℤ b +ℤ pos 25 *ℤ c -ℤ pos 125 *ℤ d +ℤ pos 625 *ℤ e) *ℤ pow N 4
        +ℤ (b -ℤ pos 10 *ℤ c +ℤ pos 75 *ℤ d -ℤ pos 500 *ℤ e) *ℤ (pow N 3 *ℤ x)
        +ℤ (c -ℤ pos 15 *ℤ d +ℤ pos 150 *ℤ e) *ℤ (pow N 2 *ℤ pow x 2)
        +ℤ (d -ℤ pos 20 *ℤ e) *ℤ (N *ℤ pow x 3) +ℤ e *ℤ pow x 4
    alg a b c d e N x = ring (a ▸ b ▸ c ▸ d ▸ e ▸ N ▸ x ▸ end) (search quote depth 24 fits 9000) tt

-- the coefficients that are not negative, and the magnitudes of the others
abbrev pub ups : Polynomial → Naturals
ups p = record { u₀ = plus p.c₀; u₁ = plus p.c₁; u₂ = plus p.c₂; u₃ = plus p.c₃; u₄ = plus p.c₄ }

abbrev pub downs : Polynomial → Naturals
downs p = record { u₀ = minus p.c₀; u₁ = minus p.c₁; u₂ = minus p.c₂; u₃ = minus p.c₃; u₄ = minus p.c₄ }

halves_are : (p : Polynomial) (N x : ℕ) → value (pos N) p (pos x) ≡ pos (natural N (ups p) x) -ℤ pos (natural N (downs p) x)
halves_are p N x =
    (λ i. value (pos N) (record { c₀ = parts p.c₀ i; c₁ = parts p.c₁ i; c₂ = parts p.c₂ i; c₃ = parts p.c₃ i; c₄ = parts p.c₄ i }) (pos x))
    ∙ alg (plus p.c₀) (plus p.c₁) (plus p.c₂) (plus p.c₃) (plus p.c₄) (minus p.c₀) (minus p.c₁) (minus p.c₂) (minus p.c₃) (minus p.c₄) N x
  where
    alg : (a b c d e f g h i j N x : ℕ) →
        (pos a -ℤ pos f) *ℤ pow (pos N) 4 +ℤ (pos b -ℤ pos g) *ℤ (pow (pos N) 3 *ℤ pos x) +ℤ (pos c -ℤ pos h) *ℤ (pow (pos N) 2 *ℤ pow (pos x) 2)
        +ℤ (pos d -ℤ pos i) *ℤ (pos N *ℤ pow (pos x) 3) +ℤ (pos e -ℤ pos j) *ℤ pow (pos x) 4
        ≡ pos (a * N ^ 4 + b * (N ^ 3 * x) + c * (N ^ 2 * x ^ 2) + d * (N * x ^ 3) + e * x ^ 4)
        -ℤ pos (f * N ^ 4 + g * (N ^ 3 * x) + h * (N ^ 2 * x ^ 2) + i * (N * x ^ 3) + j * x ^ 4)
    alg a b c d e f g h i j N x = ring (a ▹ b ▹ c ▹ d ▹ e ▹ f ▹ g ▹ h ▹ i ▹ j ▹ N ▹ x ▹ end) (search quote depth 24 fits 9000) tt

-- both halves together, in units of 2^-51 turn, over T N⁴
abbrev pub argument_error : (N T X : ℕ) → Half → Half → Polynomial → ℕ
argument_error N T X up down p = half_error N T X up (ups (shifted p)) + half_error N T X down (downs (shifted p))

pub argument_near : (N T X e : ℕ) (up down : Half) (p : Polynomial) (x : ℕ) → x ≤ X → argument_error N T X up down p ≤ e * (2 ^ 10 * (T * N ^ 4))
    → Near ((pos (half_at up x) -ℤ pos (half_at down x)) *ℤ pos (T * N ^ 4)) (pos (2 ^ 41) *ℤ value (pos N) p (pos x -ℤ pos 5 *ℤ pos N)) (e * (T * N ^ 4))
argument_near N T X e up down p x b t =
    near_unscale (2 ^ 10) (near_as
    (near_add (half_near N T X up (ups (shifted p)) x b) (near_scale (− 1) (half_near N T X down (downs (shifted p)) x b)))
    (left (pos (half_at up x)) (pos (half_at down x)) (pos (T * N ^ 4)))
    (ap (λ (z : ℤ). pos (2 ^ 10) *ℤ (pos (2 ^ 41) *ℤ z)) (shift_is p (pos N) (pos x) ∙ halves_are (shifted p) N x)
    ∙ right (pos (natural N (ups (shifted p)) x)) (pos (natural N (downs (shifted p)) x)))
    (errors (half_error N T X up (ups (shifted p))) (half_error N T X down (downs (shifted p))) e (T * N ^ 4) t)) (lit≤ tt)
  where
    left : (u d q : ℤ) → pos (2 ^ 10) *ℤ ((u -ℤ d) *ℤ q) ≡ u *ℤ (pos (2 ^ 10) *ℤ q) +ℤ − 1 *ℤ (d *ℤ (pos (2 ^ 10) *ℤ q))
    left u d q = ring (u ▸ d ▸ q ▸ end) (search quote depth 13) tt

    right : (u d : ℤ) → pos (2 ^ 10) *ℤ (pos (2 ^ 41) *ℤ (u -ℤ d)) ≡ pos (2 ^ 10) *ℤ (pos (2 ^ 41) *ℤ u) +ℤ − 1 *ℤ (pos (2 ^ 10) *ℤ (pos (2 ^ 41) *ℤ d))
    right u d = ring (u ▸ d ▸ end) (search quote depth 13) tt

    errors : (a b e q : ℕ) → a + b ≤ e * (2 ^ 10 * q) → a + 1 * b ≤ 2 ^ 10 * (e * q) + 0
    errors a b e q h = omega arith
