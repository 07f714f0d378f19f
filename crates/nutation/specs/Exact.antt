-- The exact offsets of the free core nutation and their uncertainty, of any table, at the moment x. A number that need not be whole is a numerator
-- over a denominator.
-- Derived from the IERS routine FCNNUT; not IERS Conventions software (NOTICE, docs/DIFFERENCES.md).
use Rattle.std.specs.Prelude.{List, ℕ, ◌+◌, ◌*◌, ◌-◌, ◌/◌, ℤ, pos, neg_ℤ, ◌-ℤ◌, ◌*ℤ◌, nat_abs}
use Rattle.algebra.specs.Integers.{+◌, remainder, dist}
use Rattle.instants.specs.Limits.{day_micros}
use Rattle.instants.specs.Moments.{since}
use Rattle.sine.specs.Exact.{sine_den, exact_sine, exact_cosine}
use Rattle.rows.specs.declared.Row.{Row}
use Rattle.rows.specs.declared.Place.{Place}
use Rattle.rows.specs.declared.Place.TheVariants.{End, Between}
use Rattle.rows.specs.Places.{row_moment, place, span, parts, interpolated}

-- ---- the amplitudes in hundredths of a microarcsecond, over `parts`

abbrev pub XC : Place → ℕ → ℤ
XC p x = interpolated (λ r. r.xc) p x

abbrev pub XS : Place → ℕ → ℤ
XS p x = interpolated (λ r. r.xs) p x

-- YC = XS, YS = -XC
abbrev pub YC : Place → ℕ → ℤ
YC p x = XS p x

abbrev pub YS : Place → ℕ → ℤ
YS p x = neg_ℤ (XC p x)

-- ---- the angle in turns, of n: -(n * 100) / (43021 * 86,400,000,000), whole turns removed

-- its denominator
abbrev pub angle_parts : ℕ
angle_parts = 43021 * day_micros

-- its numerator
abbrev pub exact_angle : ℤ → ℕ
exact_angle n = remainder (neg_ℤ (n *ℤ + 100)) angle_parts

-- ---- the offsets, over exact_den: ten times C cos - S sin, in nanoarcseconds

-- of the amplitudes c and s, over `parts`, at the angle of n, which x stands for
unfoldable pub exact_offset : ℤ → ℤ → ℕ → ℤ
exact_offset c s x = + 10 *ℤ (c *ℤ exact_cosine angle_parts (exact_angle (since x)) -ℤ s *ℤ exact_sine angle_parts (exact_angle (since x)))

-- X of XC and XS, Y of YC and YS
abbrev pub exact_x : List Row → ℕ → ℤ
exact_x rows x = exact_offset (XC (place rows x) x) (XS (place rows x) x) x

abbrev pub exact_y : List Row → ℕ → ℤ
exact_y rows x = exact_offset (YC (place rows x) x) (YS (place rows x) x) x

-- over this
abbrev pub exact_den : List Row → ℕ → ℕ
exact_den rows x = parts (place rows x) * sine_den angle_parts

-- ---- the uncertainty of each axis: twice u, rounded up to a whole nanoarcsecond

-- u in hundredths of a microarcsecond, over `u_parts`. At or outside an end it is the row's, and 0.1325 microarcsecond for each day beyond; between
-- two rows it is the absolute value of what is interpolated
unfoldable pub u_value : Place → ℕ → ℕ
u_value (End r) x = r.uncertainty * (100 * day_micros) + 1325 * dist x (row_moment r)
u_value (Between a b) x = nat_abs (interpolated (λ r. pos r.uncertainty) (Between a b) x)

-- the denominator
unfoldable pub u_parts : Place → ℕ
u_parts (End r) = 100 * day_micros
u_parts (Between a b) = span a b

-- n / d, rounded up
abbrev pub round_up : ℕ → ℕ → ℕ
round_up n d = (n + (d - 1)) / d

-- a hundredth of a microarcsecond is 10 nanoarcseconds
unfoldable pub uncertainty_at : Place → ℕ → ℕ
uncertainty_at p x = round_up (2 * (10 * u_value p x)) (u_parts p)

-- with the rows of a table
abbrev pub exact_uncertainty : List Row → ℕ → ℕ
exact_uncertainty rows x = uncertainty_at (place rows x) x
