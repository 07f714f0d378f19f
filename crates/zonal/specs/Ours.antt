-- Our corrections: three whole numbers, and the answer for every day number and every number of microseconds.
-- Derived from the IERS routine RG_ZONT2; not IERS Conventions software (NOTICE, docs/DIFFERENCES.md).
use Rattle.std.specs.Prelude.{ℕ, ◌^◌, ℤ, ◌+ℤ◌, ◌*ℤ◌, Result, Ok, Err}
use Rattle.std.specs.Int.Signed.{shr_z}
use Rattle.algebra.specs.Integers.{+◌}
use Rattle.instants.specs.Refusals.{refused_or, refusal_of}
use Rattle.instants.specs.Instants.{day_index, instant_cases}
use Rattle.instants.specs.Moments.{moment}
use Rattle.arguments.specs.Ours.{our_row_angle}
use Rattle.sine.specs.Ours.{our_sine, our_cosine}
use Rattle.zonal.specs.declared.Corrections.{Corrections}
use Rattle.zonal.specs.Exact.{ut1_sum, lod_sum, rate_sum}
use Rattle.instants.specs.declared.refusal.Refusal.{Refusal}

-- our sine and cosine of the row r at the moment x, in units of 2^-31
abbrev pub row_sine : ℕ → ℕ → ℤ
row_sine x r = our_sine (our_row_angle r x)

abbrev pub row_cosine : ℕ → ℕ → ℤ
row_cosine x r = our_cosine (our_row_angle r x)

-- f times a sum in units of 2^-31, to the nearest whole number: half a unit is added, and the quotient rounded down
abbrev pub rounded : ℤ → ℤ → ℤ
rounded f v = shr_z (f *ℤ v +ℤ + (2 ^ 30)) (2 ^ 31)

-- UT1 at the moment x, in nanoseconds
abbrev pub our_ut1 : ℕ → ℤ
our_ut1 x = rounded (+ 10) (ut1_sum (row_sine x) (row_cosine x))

-- length of day, in picoseconds
abbrev pub our_lod : ℕ → ℤ
our_lod x = rounded (+ 1000) (lod_sum (row_sine x) (row_cosine x))

-- rate, in 10^-20 rad/s
abbrev pub our_rate : ℕ → ℤ
our_rate x = rounded (+ 100) (rate_sum (row_sine x) (row_cosine x))

-- the three numbers together
abbrev pub corrections : (ut1 lod rate : ℤ) → Corrections
corrections a b c = record { ut1 = a; lod = b; rate = c }

-- the three numbers on the day of index i, counted from 1600-01-01, at the microsecond m
unfoldable pub corrections_at : ℕ → ℕ → Corrections
corrections_at i m = corrections (our_ut1 (moment i m)) (our_lod (moment i m)) (our_rate (moment i m))

-- the answer: the three numbers of an accepted instant, or its refusal
unfoldable pub zonal_of : ℤ → ℕ → Result Corrections Refusal
zonal_of d m = refused_or Err (instant_cases d m) (Ok (corrections_at (day_index d) m))

-- the numbers of an answer, or z where it is a refusal: what the call of the whole answer leaves where z was
abbrev pub ut1_or : ℤ → Result Corrections Refusal → ℤ
ut1_or z (Ok c) = c.ut1
ut1_or z (Err n) = z

abbrev pub lod_or : ℤ → Result Corrections Refusal → ℤ
lod_or z (Ok c) = c.lod
lod_or z (Err n) = z

abbrev pub rate_or : ℤ → Result Corrections Refusal → ℤ
rate_or z (Ok c) = c.rate
rate_or z (Err n) = z

-- what the call of one number gives: 0 beside a refusal
abbrev pub ut1_of : Result Corrections Refusal → ℤ
ut1_of = ut1_or (+ 0)

abbrev pub lod_of : Result Corrections Refusal → ℤ
lod_of = lod_or (+ 0)

abbrev pub rate_of : Result Corrections Refusal → ℤ
rate_of = rate_or (+ 0)

-- the refusal number, 0 for none
abbrev pub zonal_refusal_of : Result Corrections Refusal → ℕ
zonal_refusal_of = refusal_of
