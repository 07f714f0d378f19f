-- How near the exact sums an answer is.
use Rattle.std.specs.Prelude.{◌≡◌, ℕ, ◌*◌, ◌<◌, ℤ, ◌*ℤ◌, Ok}
use Rattle.algebra.specs.Integers.{+◌}
use Rattle.algebra.specs.Near.{Near}
use Rattle.instants.specs.Moments.{since_j2000}
use Rattle.zonal.specs.declared.Corrections.{Corrections}
use Rattle.zonal.specs.Exact.{denominator, exact_ut1, exact_lod, exact_rate}
use Rattle.zonal.specs.Ours.{zonal_of}

-- a distance of each number: UT1 in nanoseconds, length of day in picoseconds, rate in 10^-20 radian per second
pub record Distances : Type 0 where
  pub ut1 : ℕ
  pub lod : ℕ
  pub rate : ℕ

-- the three together
abbrev pub distances : (ut1 lod rate : ℕ) → Distances
distances a b c = record { ut1 = a; lod = b; rate = c }

-- the distances that are promised
abbrev pub promised : Distances
promised = distances 5 50 5

-- The numbers c are within the distances e of the exact sums at n microseconds since J2000.0.
pub record Within (e : Distances) (n : ℤ) (c : Corrections) : Type 0 where
  pub positive : 0 < denominator
  pub ut1 : Near (c.ut1 *ℤ + denominator) (exact_ut1 n) (e.ut1 * denominator)
  pub lod : Near (c.lod *ℤ + denominator) (exact_lod n) (e.lod * denominator)
  pub rate : Near (c.rate *ℤ + denominator) (exact_rate n) (e.rate * denominator)

-- The instant is answered, within the distances e.
pub record Answered (e : Distances) (d : ℤ) (m : ℕ) : Type 0 where
  pub numbers : Corrections
  pub given : zonal_of d m ≡ Ok numbers
  pub within : Within e (since_j2000 d m) numbers
