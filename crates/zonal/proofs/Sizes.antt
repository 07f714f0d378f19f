-- How large the sums and the three numbers are: each sum fits 64 bits at every row, and each number 32 bits, at every moment. A sum over rows is at
-- most the weights of its two columns times `sine_most`, the most that a sine or cosine is; the weights of all rows are at most 62 times 2^25, and
-- for the three numbers they are computed.
-- Assumes nothing.
use Prim.Native.Nat.{ℕ, zero, suc, ◌+◌, ◌*◌, ◌/◌, ◌^◌, ◌≤◌, ◌<◌}
use native.Mathlib.Nat as N
use native.Mathlib.Nat.{le_trans, le_of_eq, lt_of_le_of_lt}
use native.Mathlib.Omega.{arith}
use lib.Dec.{lit≤}
use lib.IntN.{ℤ, pos, negsuc, ◌+ℤ◌, ◌*ℤ◌, nat_abs}
use lib.Signed.{shr_z}
use mir.Syntax.{w32}
use mir.Val.{SFits}
use Rattle.algebra.proofs.Order.{abs_mul, abs_add}
use Rattle.instants.specs.Moments.{moment}
use Rattle.arguments.specs.Ours.{our_row_angle}
use Rattle.zonal.proofs.Coefficients.{coefficient_small}
use Rattle.sine.proofs.Sizes as sizes
use Rattle.sine.proofs.Sizes.{sine_most}
use Rattle.zonal.specs.declared.Corrections.{Corrections}
use Rattle.zonal.specs.Exact.{row_count, coefficient, ut1_sum, lod_sum, rate_sum}
use Rattle.zonal.specs.Ours.{row_sine, row_cosine, rounded, corrections_at}
use Rattle.zonal.specs.Inner.{sum_most, product_most}
use Rattle.zonal.proofs.Weighted.{weighted, column_weight, sum_small, ut1_is, lod_is, rate_is}

pub sine_most_lem : (x r : ℕ) → nat_abs (row_sine x r) ≤ sine_most
sine_most_lem x r = sizes.sine_most_lem (our_row_angle r x)

pub cosine_most : (x r : ℕ) → nat_abs (row_cosine x r) ≤ sine_most
cosine_most x r = sizes.cosine_most (our_row_angle r x)

module _ (p q : ℕ → ℤ) (j : ℕ) (hp : (r : ℕ) → nat_abs (p r) ≤ sine_most) (hq : (r : ℕ) → nat_abs (q r) ≤ sine_most) where
  weighted_small : (k : ℕ) → nat_abs (weighted p q j k) ≤ column_weight j k * sine_most
  unfolding weighted
  weighted_small k = sum_small (λ r. coefficient r j) (λ r. coefficient r (j + 1)) sine_most p q hp hq k

  -- a row's two coefficients are at most 2^24 each
  weight_most : (k : ℕ) → k ≤ row_count → column_weight j k ≤ k * 2 ^ 25
  weight_most zero h = omega arith
  weight_most (suc k) h = next (weight_most k (omega arith)) (coefficient_small k h j) (coefficient_small k h (j + 1))
    where
      next : {w a b : ℕ} → w ≤ k * 2 ^ 25 → a ≤ 2 ^ 24 → b ≤ 2 ^ 24 → w + (a + b) ≤ suc k * 2 ^ 25
      next h i l = omega arith

  pub weighted_most : (k : ℕ) → k ≤ row_count → nat_abs (weighted p q j k) ≤ sum_most
  weighted_most k h = le_trans (weighted_small k) (le_trans (N.mul-le-mul_right sine_most (le_trans (weight_most k h) (N.mul-le-mul_right (2 ^ 25) h))) (lit≤ tt))

  factor_most : (f : ℕ) → f * (column_weight j row_count * sine_most) ≤ product_most → nat_abs (pos f *ℤ weighted p q j row_count) ≤ product_most
  factor_most f t = le_trans (le_of_eq (abs_mul (pos f) (weighted p q j row_count))) (le_trans (N.mul-le-mul_left f (weighted_small row_count)) t)

-- ---- the three sums

-- what the code needs of a number's sum v and factor f
pub record Small (f : ℕ) (v : ℤ) : Type 0 where
  pub sum : nat_abs v ≤ sum_most
  pub product : nat_abs (pos f *ℤ v) ≤ product_most

small : (f j : ℕ) (p q : ℕ → ℤ) → ((r : ℕ) → nat_abs (p r) ≤ sine_most) → ((r : ℕ) → nat_abs (q r) ≤ sine_most) → f * (column_weight j row_count * sine_most) ≤ product_most
    → Small f (weighted p q j row_count)
small f j p q hp hq t = record { sum = weighted_most p q j hp hq row_count (N.le_refl row_count); product = factor_most p q j hp hq f t }

module _ (x : ℕ) where
  pub ut1_small : Small 10 (ut1_sum (row_sine x) (row_cosine x))
  ut1_small = rw ut1_is (small 10 0 (row_sine x) (row_cosine x) (sine_most_lem x) (cosine_most x) (lit≤ tt))

  pub lod_small : Small 1000 (lod_sum (row_sine x) (row_cosine x))
  lod_small = rw lod_is (small 1000 2 (row_cosine x) (row_sine x) (cosine_most x) (sine_most_lem x) (lit≤ tt))

  pub rate_small : Small 100 (rate_sum (row_sine x) (row_cosine x))
  rate_small = rw rate_is (small 100 4 (row_cosine x) (row_sine x) (cosine_most x) (sine_most_lem x) (lit≤ tt))

-- ---- the three numbers

shift_fits : (z : ℤ) → nat_abs z < 2 ^ 62 → SFits w32 (shr_z z (2 ^ 31))
shift_fits (pos n) h = record { sfits = bound h }
  where
    bound : {n : ℕ} → n < 2 ^ 62 → n / 2 ^ 31 < 2 ^ 31
    bound h = omega arith
shift_fits (negsuc n) h = record { sfits = bound h }
  where
    bound : {n : ℕ} → suc n < 2 ^ 62 → n / 2 ^ 31 < 2 ^ 31
    bound h = omega arith

pub rounded_fits : (f v : ℤ) → nat_abs (f *ℤ v) ≤ product_most → SFits w32 (rounded f v)
rounded_fits f v h = shift_fits (f *ℤ v +ℤ pos (2 ^ 30)) (lt_of_le_of_lt (abs_add (f *ℤ v) (pos (2 ^ 30))) (bound h))
  where
    bound : {n : ℕ} → n ≤ product_most → n + 2 ^ 30 < 2 ^ 62
    bound h = omega arith

-- each number is one of 32 bits with a sign
pub record Fit (c : Corrections) : Type 0 where
  pub ut1 : SFits w32 c.ut1
  pub lod : SFits w32 c.lod
  pub rate : SFits w32 c.rate

-- the three numbers fit, at any moment
pub corrections_fit : (i m : ℕ) → Fit (corrections_at i m)
unfolding corrections_at
corrections_fit i m = record {
  ut1 = rounded_fits (pos 10) (ut1_sum (row_sine (moment i m)) (row_cosine (moment i m))) (ut1_small (moment i m)).product;
  lod = rounded_fits (pos 1000) (lod_sum (row_sine (moment i m)) (row_cosine (moment i m))) (lod_small (moment i m)).product;
  rate = rounded_fits (pos 100) (rate_sum (row_sine (moment i m)) (row_cosine (moment i m))) (rate_small (moment i m)).product;
}
