-- The distance of our three numbers from the exact sums, on every day from 1600 to 2400. A row's sine is off by `sine_distance`, and by what the
-- angle's `row_angle_distance` makes of it; a sum by that times the weights of its two columns (Weighted); the number by its factor times the sum's
-- distance and half a unit for the rounding. `proved` is worked out so, from these two named distances and the table.
-- Assumes nothing.
use mathlib.Core.Path.{◌≡◌}
use Prim.Native.Nat.{ℕ, suc, ◌+◌, ◌*◌, ◌/◌, ◌^◌, ◌≤◌, ◌<◌}
use native.Mathlib.Nat as N
use lib.Dec.{lit≤}
use lib.IntN.{ℤ, pos, ◌-ℤ◌, ◌*ℤ◌}
use Rattle.instants.specs.Limits.{day_micros, days_covered, index_offset}
use Rattle.algebra.specs.Near.{Near}
use Rattle.algebra.proofs.Near.{near_wide}
use Rattle.algebra.proofs.Floor.{floor_next}
use Rattle.instants.specs.Moments.{since_j2000, century, moment}
use Rattle.arguments.specs.Exact.{turn_parts, exact_row_angle}
use Rattle.arguments.specs.Ours.{our_row_angle}
use Rattle.arguments.proofs.Distance.{row_angle_distance, row_angle_near, our_angle_less, exact_angle_less}
use Rattle.sine.proofs.Angles.{sine_den_positive}
use Rattle.sine.specs.Within.{sine_distance}
use Rattle.sine.proofs.Distance.{SineNear, sine_near, cosine_near, rounded_near}
use Rattle.zonal.specs.declared.Corrections.{Corrections}
use Rattle.zonal.specs.Exact.{row_count, coefficient, denominator, exact_row_sine, exact_row_cosine}
use Rattle.zonal.specs.Ours.{row_sine, row_cosine, rounded, corrections_at}
use Rattle.zonal.specs.Within.{Distances, distances, Within}
use Rattle.zonal.proofs.Weighted.{weighted, column_weight, sum_near, ut1_is, lod_is, rate_is}

-- 64 times the distance of a row's sine or cosine, in units of 2^-31
abbrev pub row_distance : ℕ
row_distance = 64 * sine_distance + row_angle_distance

-- f times the distance of a sum over the column j and the next, and half a unit, in units of 2^-37
abbrev pub sum_distance : (f j : ℕ) → ℕ
sum_distance f j = f * (column_weight j row_count * row_distance) + 64 * 2 ^ 30

-- the same in whole units, rounded up
abbrev pub number_distance : (f j : ℕ) → ℕ
number_distance f j = suc (sum_distance f j / (64 * 2 ^ 31))

-- the distances of our numbers
unfoldable pub proved : Distances
proved = distances (number_distance 10 0) (number_distance 1000 2) (number_distance 100 4)

-- a quarter of turn_parts
quarter : ℕ
quarter = 900_000_000_000 * century ^ 4

module _ (d : ℤ) (i m : ℕ) (hd : d ≡ pos i -ℤ pos index_offset) (hi : i < days_covered) (hm : m < day_micros) where
  abbrev x : ℕ
  x = moment i m

  abbrev n : ℤ
  n = since_j2000 d m

  -- a row's sine and cosine
  row_sine_lem : (r : ℕ) → r < row_count → SineNear (row_sine x r) (exact_row_sine n r) denominator row_angle_distance
  unfolding quarter
  row_sine_lem r h = sine_near quarter (exact_row_angle r n) (our_row_angle r x) row_angle_distance (lit≤ tt) (exact_angle_less r n) (our_angle_less r x) (row_angle_near d i m r hd hi hm h)

  row_cosine_lem : (r : ℕ) → r < row_count → SineNear (row_cosine x r) (exact_row_cosine n r) denominator row_angle_distance
  unfolding quarter
  row_cosine_lem r h = cosine_near quarter (exact_row_angle r n) (our_row_angle r x) row_angle_distance (lit≤ tt) (exact_angle_less r n) (our_angle_less r x) (row_angle_near d i m r hd hi hm h)

  -- one number
  number_near : (f j : ℕ) (p q y z : ℕ → ℤ)
      → ((r : ℕ) → r < row_count → SineNear (p r) (y r) denominator row_angle_distance) → ((r : ℕ) → r < row_count → SineNear (q r) (z r) denominator row_angle_distance)
      → Near (rounded (pos f) (weighted p q j row_count) *ℤ pos denominator) (pos f *ℤ weighted y z j row_count) (number_distance f j * denominator)
  unfolding weighted
  number_near f j p q y z hp hq =
      rounded_near f denominator (column_weight j row_count * row_distance) (number_distance f j) (weighted p q j row_count) (weighted y z j row_count)
      (floor_next (sum_distance f j) (64 * 2 ^ 31) (lit≤ tt))
      (sum_near (λ r. coefficient r j) (λ r. coefficient r (j + 1)) denominator row_angle_distance p q y z row_count (λ r h. (hp r h, hq r h)))

  -- On the day of index i and day number d, at the microsecond m, the three numbers are within these distances of the exact sums.
  pub corrections_near : Within proved n (corrections_at i m)
  unfolding corrections_at proved
  corrections_near = record {
    positive = sine_den_positive turn_parts (lit≤ tt);
    ut1 = rw (ut1_is (row_sine x) (row_cosine x), ut1_is (exact_row_sine n) (exact_row_cosine n)) (number_near 10 0 (row_sine x) (row_cosine x) (exact_row_sine n) (exact_row_cosine n) row_sine_lem row_cosine_lem);
    lod = rw (lod_is (row_sine x) (row_cosine x), lod_is (exact_row_sine n) (exact_row_cosine n)) (number_near 1000 2 (row_cosine x) (row_sine x) (exact_row_cosine n) (exact_row_sine n) row_cosine_lem row_sine_lem);
    rate = rw (rate_is (row_sine x) (row_cosine x), rate_is (exact_row_sine n) (exact_row_cosine n)) (number_near 100 4 (row_cosine x) (row_sine x) (exact_row_cosine n) (exact_row_sine n) row_cosine_lem row_sine_lem);
  }

-- a wider distance
pub within_wide : {e e' : Distances} {n : ℤ} {c : Corrections} → e.ut1 ≤ e'.ut1 → e.lod ≤ e'.lod → e.rate ≤ e'.rate → Within e n c → Within e' n c
within_wide h k l w = record {
  positive = w.positive;
  ut1 = near_wide w.ut1 (N.mul-le-mul_right denominator h);
  lod = near_wide w.lod (N.mul-le-mul_right denominator k);
  rate = near_wide w.rate (N.mul-le-mul_right denominator l);
}
