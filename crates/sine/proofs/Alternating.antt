-- Our alternating sum against the exact one. The exact one is c₀ - x*(c₁ - x*(c₂ - ..)), whose constants are a / (100 * m) for each a of a list,
-- and whose x is w / W. Ours has x = z / F and its constants in units of 1 / F, and rounds each product down: z * p / F.
-- Errors are in hundredths of a unit of 1 / F. Going inwards, each step adds what its constant is off, 100 for its product, rounded down, and for x,
-- rounded down, at most what the rest of the sum amounts to; x is at most 1, so the error of the rest does not grow. The terms that ours leaves out
-- at the end are bounded by their total.
-- Assumes nothing.
use mathlib.Core.Path.{◌≡◌, refl, ◌∙◌, ap}
use mathlib.Core.Bool.{Bool, true, false, ◌&&◌}
use mathlib.Core.List.{List, [], ◌∷◌}
use Prim.Native.Nat.{ℕ, suc, ◌+◌, ◌*◌, ◌/◌, ◌≤◌, ◌<◌}
use native.Mathlib.Nat as N
use native.Mathlib.Nat.{le_trans, le_of_eq, mul-le-mul}
use native.Mathlib.Omega.{arith}
use lib.Dec.{T, leb, leb→le}
use lib.IntN.{ℤ, pos, neg_ℤ, ◌-ℤ◌, ◌*ℤ◌, nat_abs}
use Rattle.algebra.specs.Integers.{dist}
use Rattle.algebra.specs.Near.{Near}
use Rattle.algebra.proofs.Tests.{and_split}
use Rattle.algebra.proofs.Ring.{end, ◌▸◌, ring, quote}
use Rattle.algebra.proofs.Order.{pos_sub, abs_mul, abs_neg}
use Rattle.algebra.proofs.Near.{near, near_dist, near_as, near_wide, near_trans, near_scale, near_unscale, near_sub, near_refl, abs_sum}
use Rattle.algebra.proofs.Floor.{near_floor, floor_next}
use Rattle.sine.specs.Ours.{alternating}

-- ---- the exact sum, over the denominator 100 * m * power W bs

abbrev pub power : ℕ → List ℕ → ℕ
power W [] = 1
power W (a ∷ bs) = W * power W bs

abbrev pub exact_alternating : ℕ → ℕ → ℕ → List ℕ → ℤ
exact_alternating W w a [] = pos a
exact_alternating W w a (b ∷ bs) = pos (a * (W * power W bs)) -ℤ pos w *ℤ exact_alternating W w b bs

abbrev pub total : List ℕ → ℕ
total [] = 0
total (a ∷ bs) = a + total bs

exact_small : (W w : ℕ) → w ≤ W → (a : ℕ) (bs : List ℕ) → nat_abs (exact_alternating W w a bs) ≤ (a + total bs) * power W bs
exact_small W w h a [] = omega arith
exact_small W w h a (b ∷ bs) =
    le_trans (abs_sum (pos (a * (W * power W bs))) (neg_ℤ (pos w *ℤ exact_alternating W w b bs)) refl (N.le_refl (a * (W * power W bs)))
    (le_trans (le_of_eq (abs_neg (pos w *ℤ exact_alternating W w b bs) ∙ abs_mul (pos w) (exact_alternating W w b bs))) (mul-le-mul h (exact_small W w h b bs))))
    (omega arith)

-- ---- the constants

-- none of our constants is larger than the one before, and there are no more of them than exact ones
abbrev pub falling : ℕ → List ℕ → List ℕ → Bool
falling c [] bs = true
falling c (d ∷ ds) [] = false
falling c (d ∷ ds) (b ∷ bs) = leb d c && falling d ds bs

-- what the constant c is off from a / (100 * m), in hundredths of a unit, rounded up
abbrev pub constant_error : (F m c a : ℕ) → ℕ
constant_error F m c a = suc (dist (c * (100 * m)) (a * F) / m)

-- the error, in hundredths of a unit: that of the constant, a unit for the product rounded down, and for z rounded down what the rest amounts to
abbrev pub error : ℕ → ℕ → ℕ → List ℕ → ℕ → List ℕ → ℕ
error F m c [] a bs = constant_error F m c a + suc (total bs * F / m)
error F m c (d ∷ ds) a [] = 0
error F m c (d ∷ ds) a (b ∷ bs) = constant_error F m c a + 100 + suc ((b + total bs) / m) + error F m d ds b bs

-- ---- one step

module _ (F W w z m : ℕ) (hF : 0 < F) (hm : 0 < m) (hw : w ≤ W) (hz : z ≤ F) (nz : Near (pos z *ℤ pos W) (pos w *ℤ pos F) W) where
  constant : (c a : ℕ) → Near (pos c *ℤ pos (100 * m)) (pos a *ℤ pos F) (constant_error F m c a * m)
  constant c a = near_wide (near_dist (c * (100 * m)) (a * F)) (floor_next (dist (c * (100 * m)) (a * F)) m hm)

  step : (P B o e c a : ℕ) (p n q : ℤ) → nat_abs n ≤ B * (m * P) → Near (pos c *ℤ pos (100 * m)) (pos a *ℤ pos F) (o * m)
      → Near (p *ℤ pos (100 * (m * P))) (n *ℤ pos F) (e * (m * P)) → Near (q *ℤ pos F) (pos z *ℤ p) F
      → Near ((pos c -ℤ q) *ℤ pos (100 * (m * (W * P)))) ((pos (a * (W * P)) -ℤ pos w *ℤ n) *ℤ pos F) ((o + 100 + B + e) * (m * (W * P)))
  step P B o e c a p n q hn nc np nq =
      near_as (near_sub (near_scale (pos (W * P)) nc) product)
      (ring (pos c ▸ q ▸ pos m ▸ pos W ▸ pos P ▸ end) (search quote depth 13) tt)
      (ring (pos a ▸ pos W ▸ pos P ▸ pos w ▸ n ▸ pos F ▸ end) (search quote depth 13) tt) (omega arith)
    where
      K : ℕ
      K = m * P * W

      floor : Near (pos (100 * K) *ℤ (q *ℤ pos F)) (pos (100 * K) *ℤ (pos z *ℤ p)) (100 * K * F)
      floor = near_scale (pos (100 * K)) nq

      before : Near (pos (z * W) *ℤ (p *ℤ pos (100 * (m * P)))) (pos (z * W) *ℤ (n *ℤ pos F)) (z * W * (e * (m * P)))
      before = near_scale (pos (z * W)) np

      square : Near (n *ℤ pos F *ℤ (pos z *ℤ pos W)) (n *ℤ pos F *ℤ (pos w *ℤ pos F)) (nat_abs (n *ℤ pos F) * W)
      square = near_scale (n *ℤ pos F) nz

      bound : nat_abs (n *ℤ pos F) * W ≤ B * K * F
      bound = le_trans (le_of_eq (ap (λ (k : ℕ). k * W) (abs_mul n (pos F)))) (omega (arith, N.mul-le-mul_right (F * W) hn))

      bound₂ : z * W * (e * (m * P)) ≤ e * K * F
      bound₂ = omega (arith, N.mul-le-mul_right (W * e * m * P) hz)

      product : Near (q *ℤ pos (100 * K)) (pos w *ℤ n *ℤ pos F) ((100 + B + e) * K)
      product = near_unscale F (near_as (near_trans floor (near_trans
          (near_as before (ring (pos z ▸ pos W ▸ pos m ▸ pos P ▸ p ▸ end) (search quote depth 13) tt) refl bound₂)
          (near_as square (ring (pos z ▸ pos W ▸ n ▸ pos F ▸ end) (search quote depth 13) tt) refl bound)))
          (ring (q ▸ pos F ▸ pos m ▸ pos P ▸ pos W ▸ end) (search quote depth 13) tt) (ring (pos w ▸ n ▸ pos F ▸ end) (search quote depth 13) tt) (omega arith)) hF

  -- ---- all of them

  -- what follows the first constant
  rest : (a : ℕ) (bs : List ℕ) → Near (pos (a * power W bs)) (exact_alternating W w a bs) (total bs * power W bs)
  rest a [] = near_as (near_refl (pos a)) (ap pos (N.mul-one a)) refl (omega arith)
  rest a (b ∷ bs) =
      near (pos (a * (W * power W bs))) (exact_alternating W w a (b ∷ bs))
      (le_trans (le_of_eq (ap nat_abs (alg (pos (a * (W * power W bs))) (pos w *ℤ exact_alternating W w b bs)) ∙ abs_mul (pos w) (exact_alternating W w b bs)))
      (le_trans (mul-le-mul hw (exact_small W w hw b bs)) (omega arith)))
    where
      alg : (x y : ℤ) → x -ℤ (x -ℤ y) ≡ y
      alg x y = ring (x ▸ y ▸ end) (search quote depth 13) tt

  pub record Good (c : ℕ) (ds : List ℕ) (a : ℕ) (bs : List ℕ) : Type 0 where
    pub small : alternating F z c ds ≤ c
    pub close : Near (pos (alternating F z c ds) *ℤ pos (100 * (m * power W bs))) (exact_alternating W w a bs *ℤ pos F) (error F m c ds a bs * (m * power W bs))

  last : (c a : ℕ) (bs : List ℕ)
      → Near (pos c *ℤ pos (100 * (m * power W bs))) (exact_alternating W w a bs *ℤ pos F) ((constant_error F m c a + suc (total bs * F / m)) * (m * power W bs))
  last c a bs =
      near_as (near_trans (near_scale (pos (power W bs)) (constant c a)) (near_as (near_scale (pos F) (rest a bs)) (alg (pos a) (pos (power W bs)) (pos F)) refl (N.le_refl _)))
      (ring (pos c ▸ pos m ▸ pos (power W bs) ▸ end) (search quote depth 13) tt) (ring (exact_alternating W w a bs ▸ pos F ▸ end) (search quote depth 13) tt)
      (omega (arith, N.mul-le-mul_right (power W bs) (floor_next (total bs * F) m hm)))
    where
      alg : (a p f : ℤ) → p *ℤ (a *ℤ f) ≡ f *ℤ (a *ℤ p)
      alg a p f = ring (a ▸ p ▸ f ▸ end) (search quote depth 13) tt

  pub alternating_near : (c : ℕ) (ds : List ℕ) (a : ℕ) (bs : List ℕ) → T (falling c ds bs) → Good c ds a bs
  unfolding alternating
  alternating_near c [] a bs t = record { small = N.le_refl c; close = last c a bs }
  alternating_near c (d ∷ ds) a [] t = absurd t
  alternating_near c (d ∷ ds) a (b ∷ bs) t =
      let v = and_split (leb d c) (falling d ds bs) t in
      let g = alternating_near d ds b bs v.1 in
      let p = alternating F z d ds in
      let q = z * p / F in
      let less : q ≤ c = le_trans (N.div-le_of_le-mul F (mul-le-mul hz (le_trans g.small (leb→le d c v.0)))) (N.le_refl c) in
      record {
        small = N.sub-le c q;
        close = near_as (step (power W bs) (suc ((b + total bs) / m)) (constant_error F m c a) (error F m d ds b bs) c a (pos p) (exact_alternating W w b bs) (pos q)
            (le_trans (exact_small W w hw b bs) (omega (arith, N.mul-le-mul_right (power W bs) (floor_next (b + total bs) m hm))))
            (constant c a) g.close (near_wide (near_floor (z * p) F hF) (N.sub-le F 1)))
            (ap (λ (y : ℤ). y *ℤ pos (100 * (m * (W * power W bs)))) (pos_sub less)) refl (N.le_refl _);
      }
