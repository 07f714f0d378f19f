-- The exact zonal sums (docs/RULES.md) at n microseconds since J2000.0: whole numbers, over one denominator.
-- Derived from the IERS routine RG_ZONT2; not IERS Conventions software (NOTICE, docs/DIFFERENCES.md).
use Rattle.std.specs.Prelude.{[], ℕ, ℤ, ◌+ℤ◌, ◌*ℤ◌, get_or}
use Rattle.algebra.specs.Integers.{+◌, sumℤ}
use Rattle.zonal.specs.Coefficients.{coefficients}
use Rattle.arguments.specs.Exact.{turn_parts, exact_row_angle}
use Rattle.sine.specs.Exact.{sine_den, exact_sine, exact_cosine}

-- the rows of the table
abbrev pub row_count : ℕ
row_count = 62

-- the coefficient of the row r in the column j, both counted from 0: the first to the sixth are the columns 0 to 5
abbrev pub coefficient : ℕ → ℕ → ℤ
coefficient r j = get_or (get_or coefficients r []) j (+ 0)

-- The three sums over the rows, for a sine and a cosine of each row. UT1's first column goes with the sine, that of the other two with the cosine.
unfoldable pub ut1_sum : (sine cosine : ℕ → ℤ) → ℤ
ut1_sum sine cosine = sumℤ row_count (λ r. coefficient r 0 *ℤ sine r +ℤ coefficient r 1 *ℤ cosine r)

-- that of length of day
unfoldable pub lod_sum : (sine cosine : ℕ → ℤ) → ℤ
lod_sum sine cosine = sumℤ row_count (λ r. coefficient r 2 *ℤ cosine r +ℤ coefficient r 3 *ℤ sine r)

-- that of the rate
unfoldable pub rate_sum : (sine cosine : ℕ → ℤ) → ℤ
rate_sum sine cosine = sumℤ row_count (λ r. coefficient r 4 *ℤ cosine r +ℤ coefficient r 5 *ℤ sine r)

-- the denominator of the exact sines, cosines and sums
abbrev pub denominator : ℕ
denominator = sine_den turn_parts

-- the exact sine and cosine of the row r
abbrev pub exact_row_sine : ℤ → ℕ → ℤ
exact_row_sine n r = exact_sine turn_parts (exact_row_angle r n)

abbrev pub exact_row_cosine : ℤ → ℕ → ℤ
exact_row_cosine n r = exact_cosine turn_parts (exact_row_angle r n)

-- exact UT1, in nanoseconds, over the denominator
abbrev pub exact_ut1 : ℤ → ℤ
exact_ut1 n = + 10 *ℤ ut1_sum (exact_row_sine n) (exact_row_cosine n)

-- exact length of day, in picoseconds, over the denominator
abbrev pub exact_lod : ℤ → ℤ
exact_lod n = + 1000 *ℤ lod_sum (exact_row_sine n) (exact_row_cosine n)

-- exact rate, in 10^-20 rad/s, over the denominator
abbrev pub exact_rate : ℤ → ℤ
exact_rate n = + 100 *ℤ rate_sum (exact_row_sine n) (exact_row_cosine n)
