-- Sums over rows with two weights a row: how large they are, and how near two of them are whose sines and cosines are near, row by row. Both go
-- by induction on the rows: one row more adds its two weights times the bound, or the distance, of a sine.
-- Assumes nothing.
use mathlib.Core.Path.{◌≡◌, refl}
use Prim.Native.Nat.{ℕ, zero, suc, ◌+◌, ◌*◌, ◌^◌, ◌≤◌, ◌<◌}
use native.Mathlib.Nat as N
use native.Mathlib.Nat.{le_trans, le_of_eq}
use native.Mathlib.Omega.{arith}
use lib.IntN.{ℤ, pos, ◌+ℤ◌, ◌*ℤ◌, nat_abs}
use Rattle.algebra.specs.Integers.{sumℤ, sumℕ}
use Rattle.algebra.specs.Near.{Near}
use Rattle.algebra.proofs.Ring.{end, ◌▸◌, ring, quote}
use Rattle.algebra.proofs.Near.{near_as, near_scale, near_add, near_refl, abs_sum, abs_prod}
use Rattle.sine.specs.Within.{sine_distance}
use Rattle.sine.proofs.Distance.{SineNear}
use Rattle.zonal.specs.Exact.{row_count, coefficient, ut1_sum, lod_sum, rate_sum}
use Rattle.zonal.specs.Inner.{term}

module _ (c d : ℕ → ℤ) where
  -- the weight c goes with p, and d with q
  abbrev pub Sum : (ℕ → ℤ) → (ℕ → ℤ) → ℕ → ℤ
  Sum p q k = sumℤ k (λ r. c r *ℤ p r +ℤ d r *ℤ q r)

  -- the magnitudes of the weights, over the first k rows
  abbrev pub weight : ℕ → ℕ
  weight k = sumℕ k (λ r. nat_abs (c r) + nat_abs (d r))

  pub sum_small : (B : ℕ) (p q : ℕ → ℤ) → ((r : ℕ) → nat_abs (p r) ≤ B) → ((r : ℕ) → nat_abs (q r) ≤ B) → (k : ℕ) → nat_abs (Sum p q k) ≤ weight k * B
  sum_small B p q hp hq zero = omega arith
  sum_small B p q hp hq (suc k) =
      le_trans (abs_sum (Sum p q k) (c k *ℤ p k +ℤ d k *ℤ q k) refl (sum_small B p q hp hq k)
      (abs_sum (c k *ℤ p k) (d k *ℤ q k) refl (abs_prod (c k) (p k) (N.le_refl (nat_abs (c k))) (hp k)) (abs_prod (d k) (q k) (N.le_refl (nat_abs (d k))) (hq k))))
      (le_of_eq (alg (weight k) (nat_abs (c k)) (nat_abs (d k)) B))
    where
      alg : (w a b m : ℕ) → w * m + (a * m + b * m) ≡ (w + (a + b)) * m
      alg w a b m = omega arith

  -- p stands for n, and q for m
  pub sum_near : (D e : ℕ) (p q n m : ℕ → ℤ) (k : ℕ) → ((r : ℕ) → r < k → SineNear (p r) (n r) D e × SineNear (q r) (m r) D e)
      → Near (Sum p q k *ℤ pos (64 * D)) (Sum n m k *ℤ pos (64 * 2 ^ 31)) (weight k * (64 * sine_distance + e) * D)
  sum_near D e p q n m zero h = near_as (near_refl (pos 0)) (zero_times (pos (64 * D))) (zero_times (pos (64 * 2 ^ 31))) (omega arith)
    where
      zero_times : (z : ℤ) → pos 0 *ℤ z ≡ pos 0
      zero_times z = ring (z ▸ end) (search quote depth 13) tt
  sum_near D e p q n m (suc k) h =
      let l = h k (N.lt-suc_self k) in
      near_as (near_add (sum_near D e p q n m k (λ r i. h r (N.le_step i))) (near_add (near_scale (c k) l.0) (near_scale (d k) l.1)))
      (alg (Sum p q k) (c k) (p k) (d k) (q k) (pos (64 * D))) (alg (Sum n m k) (c k) (n k) (d k) (m k) (pos (64 * 2 ^ 31)))
      (le_of_eq (error (weight k) (nat_abs (c k)) (nat_abs (d k)) (64 * sine_distance + e) D))
    where
      alg : (s c v d w k : ℤ) → (s +ℤ (c *ℤ v +ℤ d *ℤ w)) *ℤ k ≡ s *ℤ k +ℤ (c *ℤ (v *ℤ k) +ℤ d *ℤ (w *ℤ k))
      alg s c v d w k = ring (s ▸ c ▸ v ▸ d ▸ w ▸ k ▸ end) (search quote depth 13) tt

      error : (w a b u m : ℕ) → w * u * m + (a * (u * m) + b * (u * m)) ≡ (w + (a + b)) * u * m
      error w a b u m = omega arith

-- ---- with the table's weights

-- over the first k rows, the column j with p and the next with q
unfoldable pub weighted : (p q : ℕ → ℤ) → ℕ → ℕ → ℤ
weighted p q j k = sumℤ k (λ r. term r j (p r) (q r))

-- the magnitudes of both columns, over the first k rows
abbrev pub column_weight : ℕ → ℕ → ℕ
column_weight j k = weight (λ r. coefficient r j) (λ r. coefficient r (j + 1)) k

module _ (p q : ℕ → ℤ) (j : ℕ) where
  pub weighted_zero : weighted p q j 0 ≡ pos 0
  unfolding weighted
  weighted_zero = refl

  pub weighted_next : (k : ℕ) → weighted p q j (suc k) ≡ weighted p q j k +ℤ term k j (p k) (q k)
  unfolding weighted
  weighted_next k = refl

-- the three sums are of this kind
module _ (s c : ℕ → ℤ) where
  pub ut1_is : ut1_sum s c ≡ weighted s c 0 row_count
  unfolding ut1_sum weighted
  ut1_is = refl

  pub lod_is : lod_sum s c ≡ weighted c s 2 row_count
  unfolding lod_sum weighted
  lod_is = refl

  pub rate_is : rate_sum s c ≡ weighted c s 4 row_count
  unfolding rate_sum weighted
  rate_is = refl
