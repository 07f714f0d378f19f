-- The words of the promises on the offsets (proofs/Promises.antt).
use Rattle.std.specs.Prelude.{◌≡◌, List, ℕ, ◌*◌, ◌<◌, ℤ, pos, ◌*ℤ◌}
use Rattle.algebra.specs.Near.{Near}
use Rattle.rows.specs.declared.Row.{Row}
use Rattle.nutation.specs.declared.Offsets.{Offsets}
use Rattle.nutation.specs.Exact.{exact_x, exact_y, exact_den, exact_uncertainty}

-- the distance that is promised, in nanoarcseconds
abbrev pub distance : ℕ
distance = 2

-- the whole number z is at most `distance` from the fraction num / den
abbrev pub OffsetWithin : ℤ → ℤ → ℕ → Type 0
OffsetWithin z num den = Near (z *ℤ pos den) num (distance * den)

-- both offsets are near the exact ones at x, over a denominator that is not 0, and the uncertainty is the exact one
pub record OffsetsNear (rows : List Row) (x : ℕ) (o : Offsets) : Type 0 where
  pub positive : 0 < exact_den rows x
  pub x_near : OffsetWithin o.x (exact_x rows x) (exact_den rows x)
  pub y_near : OffsetWithin o.y (exact_y rows x) (exact_den rows x)
  pub uncertainty_is : o.uncertainty ≡ exact_uncertainty rows x
