-- Our offsets in whole numbers, at the moment x. An angle is in units of 2^-41 turn, a sine in units of 2^-31, an amplitude in units
-- of 2^-10 hundredths of a microarcsecond. Quotients are rounded down, and the offsets to the nearest whole nanoarcsecond.
-- Derived from the IERS routine FCNNUT; not IERS Conventions software (NOTICE, docs/DIFFERENCES.md).
use Rattle.std.specs.Prelude.{List, ℕ, ◌*◌, ◌-◌, ◌/◌, ◌%◌, ◌^◌, ℤ, pos, neg_ℤ, ◌+ℤ◌, ◌-ℤ◌, ◌*ℤ◌, Result, Ok, Err}
use Rattle.std.specs.Int.Signed.{shr_z}
use Rattle.algebra.specs.Integers.{+◌}
use Rattle.instants.specs.Refusals.{refused_or, refusal_of}
use Rattle.instants.specs.Instants.{instant_cases}
use Rattle.instants.specs.Moments.{moment_of}
use Rattle.sine.specs.Ours.{our_sine, our_cosine}
use Rattle.arguments.specs.Ours.{high}
use Rattle.rows.specs.declared.Row.{Row}
use Rattle.rows.specs.declared.Place.{Place}
use Rattle.rows.specs.declared.Place.TheVariants.{End, Between}
use Rattle.rows.specs.BuiltIn.{built_in}
use Rattle.rows.specs.Places.{row_moment, place, span}
use Rattle.row_bytes.specs.Form.{table_in, bytes_cases}
use Rattle.nutation.specs.declared.Offsets.{Offsets}
use Rattle.nutation.specs.Exact.{uncertainty_at}
use Rattle.instants.specs.declared.refusal.Refusal.{Refusal}

-- ---- the angle, of x

-- 2^41 * 18262500 / 43021, the angle at x = 0, and 400 turns more so that nothing is negative
abbrev pub start_angle : ℕ
start_angle = 1813099044544744

-- 2^105 * 100 / (43021 * 86,400,000,000): x times it, by 2^64, is how far the angle has gone back
abbrev pub angle_rate : ℕ
angle_rate = 1091328007965299807

-- the start less what has gone back, whole turns removed
unfoldable pub our_angle : ℕ → ℕ
our_angle x = (start_angle - high x angle_rate) % 2 ^ 41

-- ---- an amplitude

-- how far x is on the way from a row to another, of 2^27
unfoldable pub factor : Row → Row → ℕ → ℕ
factor a b x = (x - row_moment a) * 2 ^ 27 / span a b

-- from c to d by l of 2^27
unfoldable pub mixed : ℤ → ℤ → ℕ → ℤ
mixed c d l = shr_z (c *ℤ pos (2 ^ 27) +ℤ (d -ℤ c) *ℤ pos l) (2 ^ 17)

-- a number f of the rows at x
unfoldable pub amplitude : (Row → ℤ) → Place → ℕ → ℤ
amplitude f (End r) x = f r *ℤ pos (2 ^ 10)
amplitude f (Between a b) x = mixed (f a) (f b) (factor a b x)

-- the four of them
abbrev pub our_Xc : Place → ℕ → ℤ
our_Xc p x = amplitude (λ r. r.xc) p x

abbrev pub our_Xs : Place → ℕ → ℤ
our_Xs p x = amplitude (λ r. r.xs) p x

abbrev pub our_Yc : Place → ℕ → ℤ
our_Yc p x = our_Xs p x

abbrev pub our_Ys : Place → ℕ → ℤ
our_Ys p x = neg_ℤ (our_Xc p x)

-- ---- the offsets: ten times C cos - S sin

-- of two amplitudes, a cosine and a sine
unfoldable pub offset : ℤ → ℤ → ℤ → ℤ → ℤ
offset c s cos sin = shr_z (+ 10 *ℤ (c *ℤ cos -ℤ s *ℤ sin) +ℤ pos (2 ^ 40)) (2 ^ 41)

-- at the angle of x
abbrev pub our_offset : ℤ → ℤ → ℕ → ℤ
our_offset c s x = offset c s (our_cosine (our_angle x)) (our_sine (our_angle x))

-- both offsets, and the uncertainty, which is exact
unfoldable pub offsets_at : Place → ℕ → Offsets
offsets_at p x = record { x = our_offset (our_Xc p x) (our_Xs p x) x; y = our_offset (our_Yc p x) (our_Ys p x) x; uncertainty = uncertainty_at p x }

-- with the rows of a table
abbrev pub our_offsets : List Row → ℕ → Offsets
our_offsets rows x = offsets_at (place rows x) x

-- ---- the answer at an instant

-- refused by 8 or 9, or the offsets at the instant's moment
abbrev pub nutation_with : List Row → ℤ → ℕ → Result Offsets Refusal
nutation_with rows d m = refused_or Err (instant_cases d m) (Ok (our_offsets rows (moment_of d m)))

-- the service: with the built-in rows
unfoldable pub nutation_of : ℤ → ℕ → Result Offsets Refusal
nutation_of d m = nutation_with built_in d m

-- and with the rows in the bytes s: refused by 21 to 24 before the instant is looked at
unfoldable pub nutation_rows_of : List ℕ → ℤ → ℕ → Result Offsets Refusal
nutation_rows_of s d m = refused_or Err (bytes_cases s) (nutation_with (table_in s) d m)

-- the numbers of an answer, or z where it is a refusal: what the call of the whole answer leaves where z was
abbrev pub x_or : ℤ → Result Offsets Refusal → ℤ
x_or z (Ok o) = o.x
x_or z (Err r) = z

abbrev pub y_or : ℤ → Result Offsets Refusal → ℤ
y_or z (Ok o) = o.y
y_or z (Err r) = z

abbrev pub uncertainty_or : ℕ → Result Offsets Refusal → ℕ
uncertainty_or z (Ok o) = o.uncertainty
uncertainty_or z (Err r) = z

-- what the call of one number gives: 0 beside a refusal
abbrev pub x_of : Result Offsets Refusal → ℤ
x_of = x_or (+ 0)

abbrev pub y_of : Result Offsets Refusal → ℤ
y_of = y_or (+ 0)

abbrev pub uncertainty_of : Result Offsets Refusal → ℕ
uncertainty_of = uncertainty_or 0

-- the refusal number, 0 for none
abbrev pub nutation_refusal_of : Result Offsets Refusal → ℕ
nutation_refusal_of = refusal_of
