-- Demand 1: any input is answered. Each service is refused by the first refusal number of its list that applies, and by nothing else. Beside a refusal
-- the call of one number gives 0, the call of the whole answer leaves every number as it stood, and no lent byte changes; without one the whole answer
-- leaves the numbers that their own calls give. That each exported call gives these for every input is its contract (crates/enfysgar/src).
-- The rules are written out here a second time, with their figures and apart from the lists and limits of the definitions (the length of a month, the
-- mark, numbers and sums in bytes, that some row of a table has a fault, a later day, what a rescue keeps and passes, what reading a record of a file gives
-- and the entries of a comparison are theirs): first when each refusal is given, then for each service its refusals in their order.
use Rattle.std.specs.Prelude.{ℕ, zero, suc, ◌+◌, ◌-◌, ◌*◌, ◌/◌, ◌%◌, ◌≡◌, Bool, cond, not, ◌&&◌, ◌||◌, List, [], ◌∷◌, ◌++◌, ltb, leb, eqb, ℤ, pos, neg_ℤ, Float, length, drop, Result}
use Rattle.std.specs.Float.Ieee as Ieee
use Rattle.std.specs.Int.Signed.{lt_z, le_z}
use Rattle.promises.specs.Figures.{Case, case, first_refusal}
use Rattle.instants.specs.Instants.{later_day}
use Rattle.calendar.specs.Claims.{earlier, one_of}
use Rattle.calendar.specs.declared.Date.{Date}
use Rattle.calendar.specs.Dates.{date, month_length, day_of, date_of, day_number_of, day_number_or, date_refusal_of, year_of, year_or, month_of, month_or, day_of_month_of, day_of_month_or, day_refusal_of}
use Rattle.calendar.specs.Times.{instant_of, instant_day_of, instant_day_or, instant_micros_of, instant_micros_or, instant_refusal_of}
use Rattle.utc.specs.Conversions as utc
use Rattle.utc.specs.Conversions.{tt_of}
use Rattle.utc.specs.declared.Reading.{Reading}
use Rattle.clock.specs.Words.{mark, split_of, join_of, day_word_of, day_word_or, time_word_of, time_word_or, split_refusal_of, joined_day_of, joined_day_or, joined_micros_of, joined_micros_or, join_refusal_of}
use Rattle.binary64.specs.Words.{whole, zero64}
use Rattle.tide.specs.Tidal as tide
use Rattle.tide.specs.declared.Doodson.{Doodson}
use Rattle.schwiderski.specs.Service.{schwiderski_of, angles_or, angle_of, angles_refusal_of}
use Rattle.schwiderski.specs.declared.Angles.{Angles}
use Rattle.zonal.specs.Ours as zonal
use Rattle.row_places.specs.Lookup.{probes_of, probes_rows_of}
use Rattle.nutation.specs.Ours as nutation
use Rattle.bigendian.specs.Numbers.{number_at, word_sum, signed_of}
use Rattle.rows.specs.Table.{some_below}
use Rattle.record.specs.declared.Record.{Record}
use Rattle.instants.specs.declared.refusal.Refusal.{Refusal}
use Rattle.record.specs.Records.{write_refusal, written, read_of, record_day_of, record_day_or, record_micros_of, record_micros_or, record_ut1_of, record_ut1_or, record_lod_of, record_lod_or, record_rate_of, record_rate_or, read_refusal_of}
use Rattle.compare.specs.Compare as compared
use Rattle.compare.specs.Compare.{entries_of, compare_of, entries_number_of, compare_refusal_of}
use Rattle.run.specs.Run.{run_refusal, run_written}
use Rattle.rescue.specs.Walk.{walk, ranges_of}
use Rattle.rescue.specs.Rescue.{rescue_of, records_after, list_after, kept_of, ranges_number_of, passed_of, rescue_refusal_of}

-- ---- when each number is given

-- a date's year, month and day
abbrev pub refusal1 : ℕ → Case
refusal1 y = case 1 (ltb y 1900 || ltb 2100 y)

abbrev pub refusal2 : ℕ → Case
refusal2 m = case 2 (ltb m 1 || ltb 12 m)

abbrev pub refusal3 : (y m d : ℕ) → Case
refusal3 y m d = case 3 (ltb d 1 || ltb (month_length y m) d)

-- an hour, a minute, a second and a microsecond
abbrev pub refusal4 : ℕ → Case
refusal4 hour = case 4 (ltb 23 hour)

abbrev pub refusal5 : ℕ → Case
refusal5 minute = case 5 (ltb 59 minute)

abbrev pub refusal6 : ℕ → Case
refusal6 second = case 6 (ltb 59 second)

abbrev pub refusal7 : ℕ → Case
refusal7 microsecond = case 7 (ltb 999_999 microsecond)

-- a day number; the day number of a run's last instant, which comes after an accepted start; microseconds of a day
abbrev pub refusal8 : ℤ → Case
refusal8 d = case 8 (lt_z d (pos 15020) || lt_z (pos 88433) d)

abbrev pub refusal8_last : ℤ → Case
refusal8_last d = case 8 (lt_z (pos 88433) d)

abbrev pub refusal9 : ℕ → Case
refusal9 m = case 9 (leb 86_400_000_000 m)

-- a day word and a time word whose marks differ
abbrev pub refusal10 : ℤ → ℕ → Case
refusal10 d t = case 10 (not (eqb (t / 137_438_953_472) (mark d)))

-- six multipliers, of which one is outside -12 to 12
abbrev pub in_range : ℤ → Bool
in_range k = le_z (neg_ℤ (pos 12)) k && le_z k (pos 12)

abbrev pub refusal11 : Doodson → Case
refusal11 k = case 11 (not (((((in_range k.k1 && in_range k.k2) && in_range k.k3) && in_range k.k4) && in_range k.k5) && in_range k.k6))

-- a buffer of n bytes where `needed` are needed
abbrev pub refusal12 : (n needed : ℕ) → Case
refusal12 n needed = case 12 (ltb n needed)

-- a record's length field, its version, byte 3, and the sum of its fifteen words
abbrev pub refusal13 : List ℕ → Case
refusal13 s = case 13 (not (eqb (number_at s 0 2) 30))

abbrev pub refusal14 : List ℕ → Case
refusal14 s = case 14 (not (eqb (number_at s 2 1) 1))

abbrev pub refusal15 : List ℕ → Case
refusal15 s = case 15 (not (eqb (number_at s 3 1) 0))

abbrev pub refusal16 : List ℕ → Case
refusal16 s = case 16 (not (eqb (word_sum s 15 % 65536) 0))

-- the day word and the time word of a record
abbrev pub record_day_word : List ℕ → ℤ
record_day_word s = pos (number_at s 4 4)

abbrev pub record_time_word : List ℕ → ℕ
record_time_word s = number_at s 8 8

-- a run's count and step
abbrev pub refusal17 : ℕ → Case
refusal17 count = case 17 (ltb count 1 || ltb 96 count)

abbrev pub refusal18 : ℕ → Case
refusal18 step = case 18 (ltb step 1 || ltb 86_400_000_000 step)

-- the 27 days that have a second 60, in their last minute
unfoldable pub days_with_second60 : List Date
days_with_second60 =
    date 1972 6 30 ∷ date 1972 12 31 ∷ date 1973 12 31 ∷ date 1974 12 31 ∷ date 1975 12 31 ∷ date 1976 12 31 ∷ date 1977 12 31 ∷ date 1978 12 31 ∷ date 1979 12 31
    ∷ date 1981 6 30 ∷ date 1982 6 30 ∷ date 1983 6 30 ∷ date 1985 6 30 ∷ date 1987 12 31 ∷ date 1989 12 31 ∷ date 1990 12 31 ∷ date 1992 6 30 ∷ date 1993 6 30
    ∷ date 1994 6 30 ∷ date 1995 12 31 ∷ date 1997 6 30 ∷ date 1998 12 31 ∷ date 2005 12 31 ∷ date 2008 12 31 ∷ date 2012 6 30 ∷ date 2015 6 30 ∷ date 2016 12 31 ∷ []

-- the second of a UTC reading
abbrev pub refusal6_utc : (y m d hour minute second : ℕ) → Case
refusal6_utc y m d hour minute second = case 6 (ltb (cond ((eqb hour 23 && eqb minute 59) && one_of y m d days_with_second60) 60 59) second)

-- a UTC date before the list of leap seconds begins, and one from which on it has expired
abbrev pub refusal19_utc : (y m d : ℕ) → Case
refusal19_utc y m d = case 19 (earlier y m d (date 1972 1 1))

abbrev pub refusal20_utc : (y m d : ℕ) → Case
refusal20_utc y m d = case 20 (not (earlier y m d (date 2025 6 28)))

-- the refusals of a UTC reading
abbrev pub reading_refusals : Reading → List Case
reading_refusals r =
    refusal1 r.year ∷ refusal2 r.month ∷ refusal3 r.year r.month r.day ∷ refusal4 r.hour ∷ refusal5 r.minute
    ∷ refusal6_utc r.year r.month r.day r.hour r.minute r.second ∷ refusal7 r.microsecond
    ∷ refusal19_utc r.year r.month r.day ∷ refusal20_utc r.year r.month r.day ∷ []

-- the instant d, m is before e, n
abbrev pub instant_before : ℤ → ℕ → ℤ → ℕ → Bool
instant_before d m e n = lt_z d e || (le_z d e && ltb m n)

-- an instant before 1972-01-01 0 h UTC, and one from 2025-06-28 0 h UTC on
abbrev pub refusal19_tt : ℤ → ℕ → Case
refusal19_tt d m = case 19 (instant_before d m (pos 41317) 42_184_000)

abbrev pub refusal20_tt : ℤ → ℕ → Case
refusal20_tt d m = case 20 (not (instant_before d m (pos 60854) 69_184_000))

-- the bytes of a table of rows: 3 + 16 n for n from 2 to 200, so from 35 to 3203, and 3 above a multiple of 16
abbrev pub table_length : ℕ → Bool
table_length n = leb 35 n && (leb n 3203 && eqb (n % 16) 3)

-- fewer than three bytes, a length field that is not their number, or a number that no table has
abbrev pub refusal21 : List ℕ → Case
refusal21 s = case 21 (ltb (length s) 3 || (not (eqb (number_at s 0 2) (length s)) || not (table_length (length s))))

-- the version
abbrev pub refusal22 : List ℕ → Case
refusal22 s = case 22 (not (eqb (number_at s 2 1) 1))

-- the number of rows
abbrev pub table_rows : List ℕ → ℕ
table_rows s = (length s - 3) / 16

-- of the row at i, counted from 0: its day,
abbrev pub table_day : List ℕ → ℕ → ℕ
table_day s i = number_at s (3 + 16 * i) 4

-- XC,
abbrev pub table_Xc : List ℕ → ℕ → ℤ
table_Xc s i = signed_of 4 (number_at s (7 + 16 * i) 4)

-- XS
abbrev pub table_Xs : List ℕ → ℕ → ℤ
table_Xs s i = signed_of 4 (number_at s (11 + 16 * i) 4)

-- and its uncertainty
abbrev pub table_uncertainty : List ℕ → ℕ → ℤ
table_uncertainty s i = signed_of 4 (number_at s (15 + 16 * i) 4)

-- in some row a day that is out of its limits, or not after that of the row before
abbrev pub refusal23 : List ℕ → Case
refusal23 s =
    case 23 (some_below (table_rows s) (λ i. (ltb (table_day s i) 15020 || ltb 88433 (table_day s i)) || (ltb 0 i && leb (table_day s i) (table_day s (i - 1)))))

-- an amplitude outside -1000 to 1000 microarcseconds
abbrev pub beyond : ℤ → Bool
beyond z = lt_z z (neg_ℤ (pos 100_000)) || lt_z (pos 100_000) z

-- in some row such an amplitude, or an uncertainty that is not above 0 and at most 1000 microarcseconds
abbrev pub refusal24 : List ℕ → Case
refusal24 s =
    case 24 (some_below (table_rows s) (λ i. beyond (table_Xc s i) || (beyond (table_Xs s i) || (lt_z (table_uncertainty s i) (pos 1) || lt_z (pos 100_000) (table_uncertainty s i)))))

-- an input of more than 65,536 bytes
abbrev pub refusal25 : List ℕ → Case
refusal25 s = case 25 (ltb 65536 (length s))

-- two buffers of n and m bytes, of which one or both are shorter than is needed
abbrev pub refusal12_two : (n needed m needed' : ℕ) → Case
refusal12_two n needed m needed' = case 12 (ltb n needed || ltb m needed')

-- the year of an angle
abbrev pub refusal1_angles : ℕ → Case
refusal1_angles y = case 1 (ltb y 1974 || ltb 2100 y)

-- a day of one of these years that is not at least 1 and below 366, or below 367 in every fourth of them but 2100
abbrev pub refusal26 : ℕ → Float → Case
refusal26 y d = case 26 (not (Ieee.le (whole (pos 1)) d && Ieee.lt d (whole (pos (cond (eqb (y % 4) 0 && not (eqb y 2100)) 367 366)))))

-- what reading record k of a file gives, counted from 0
abbrev pub read_at : List ℕ → ℕ → Result Record Refusal
read_at s k = read_of (drop (30 * k) s)

-- a file's length: no multiple of thirty, or above 65,520
abbrev pub refusal27 : List ℕ → Case
refusal27 s = case 27 (not (eqb (length s % 30) 0) || ltb 65520 (length s))

-- the cases f 0, f 1, .. f (n - 1)
abbrev pub cases_below : ℕ → (ℕ → Case) → List Case
cases_below zero f = []
cases_below (suc n) f = f 0 ∷ cases_below n (λ k. f (suc k))

-- the refusals of reading its records, one after the other
abbrev pub record_refusals : List ℕ → List Case
record_refusals s = cases_below (length s / 30) (λ k. case (read_refusal_of (read_at s k)) (not (eqb (read_refusal_of (read_at s k)) 0)))

-- the instant of one answer's record is not before that of another's
abbrev pub not_before : Result Record Refusal → Result Record Refusal → Bool
not_before a b = not (instant_before (record_day_of a) (record_micros_of a) (record_day_of b) (record_micros_of b))

-- an instant that is not before the next
abbrev pub refusal28 : List ℕ → Case
refusal28 s = case 28 (some_below (length s / 30 - 1) (λ k. not_before (read_at s k) (read_at s (suc k))))

-- the refusals of a file
abbrev pub file_refusals : List ℕ → List Case
file_refusals s = refusal27 s ∷ (record_refusals s ++ refusal28 s ∷ [])

-- ---- the demand: each service by its list, its numbers, bytes that stay

-- One number of the answer a: `value a` is what its own call gives, and `left old a` what the call of the whole answer leaves where `old` stood.
pub record Number {A B : Type 0} (refusal : A → ℕ) (value : A → B) (left : B → A → B) (zero : B) (a : A) : Type 0 where
  -- without a refusal both are the same number, whatever stood there
  pub same : refusal a ≡ 0 → (old : B) → left old a ≡ value a
  -- beside a refusal its own call gives 0, and what stood there stays
  pub zeroed : (refusal a ≡ 0 → ⊥) → value a ≡ zero
  pub kept : (refusal a ≡ 0 → ⊥) → (old : B) → left old a ≡ old

-- what the eleven calls of one angle give, in the order of the whole answer
abbrev pub eleven : Result Angles Refusal → List Float
eleven a =
    angle_of (λ (b : Angles). b.m2) a ∷ angle_of (λ (b : Angles). b.s2) a ∷ angle_of (λ (b : Angles). b.n2) a ∷ angle_of (λ (b : Angles). b.k2) a
    ∷ angle_of (λ (b : Angles). b.k1) a ∷ angle_of (λ (b : Angles). b.o1) a ∷ angle_of (λ (b : Angles). b.p1) a ∷ angle_of (λ (b : Angles). b.q1) a
    ∷ angle_of (λ (b : Angles). b.mf) a ∷ angle_of (λ (b : Angles). b.mm) a ∷ angle_of (λ (b : Angles). b.ssa) a ∷ []

pub record AnyInputIsAnswered : Type 0 where
  -- (a) dates and day numbers
  pub date_to_day : (y m d : ℕ) → date_refusal_of (day_of y m d) ≡ first_refusal (refusal1 y ∷ refusal2 m ∷ refusal3 y m d ∷ [])
  pub date_to_day_numbers : (y m d : ℕ) → Number date_refusal_of day_number_of day_number_or (pos 0) (day_of y m d)
  pub day_to_date : (z : ℤ) → day_refusal_of (date_of z) ≡ first_refusal (refusal8 z ∷ [])
  pub day_to_date_numbers : (z : ℤ)
      → Number day_refusal_of year_of year_or 0 (date_of z) × Number day_refusal_of month_of month_or 0 (date_of z) × Number day_refusal_of day_of_month_of day_of_month_or 0 (date_of z)
  -- (b) date and time
  pub date_and_time : (y m d h n s u : ℕ) → instant_refusal_of (instant_of y m d h n s u)
      ≡ first_refusal (refusal1 y ∷ refusal2 m ∷ refusal3 y m d ∷ refusal4 h ∷ refusal5 n ∷ refusal6 s ∷ refusal7 u ∷ [])
  pub date_and_time_numbers : (y m d h n s u : ℕ)
      → Number instant_refusal_of instant_day_of instant_day_or (pos 0) (instant_of y m d h n s u) × Number instant_refusal_of instant_micros_of instant_micros_or 0 (instant_of y m d h n s u)
  -- (c) clock words
  pub split : (d : ℤ) (m : ℕ) → split_refusal_of (split_of d m) ≡ first_refusal (refusal8 d ∷ refusal9 m ∷ [])
  pub split_numbers : (d : ℤ) (m : ℕ) → Number split_refusal_of day_word_of day_word_or (pos 0) (split_of d m) × Number split_refusal_of time_word_of time_word_or 0 (split_of d m)
  pub join : (d : ℤ) (t : ℕ) → join_refusal_of (join_of d t) ≡ first_refusal (refusal8 d ∷ refusal9 (t % 137_438_953_472) ∷ refusal10 d t ∷ [])
  pub join_numbers : (d : ℤ) (t : ℕ) → Number join_refusal_of joined_day_of joined_day_or (pos 0) (join_of d t) × Number join_refusal_of joined_micros_of joined_micros_or 0 (join_of d t)
  -- (d) frequency and phase
  pub phase : (r : Reading) (k : Doodson) → tide.tide_refusal_of (tide.tide_of r k) ≡ first_refusal (reading_refusals r ++ (refusal11 k ∷ []))
  pub phase_numbers : (r : Reading) (k : Doodson)
      → Number tide.tide_refusal_of tide.frequency_of tide.frequency_or zero64 (tide.tide_of r k)
      × Number tide.tide_refusal_of tide.phase_of tide.phase_or zero64 (tide.tide_of r k)
  -- (e) corrections
  pub corrections : (d : ℤ) (m : ℕ) → zonal.zonal_refusal_of (zonal.zonal_of d m) ≡ first_refusal (refusal8 d ∷ refusal9 m ∷ [])
  pub corrections_numbers : (d : ℤ) (m : ℕ)
      → Number zonal.zonal_refusal_of zonal.ut1_of zonal.ut1_or (pos 0) (zonal.zonal_of d m)
      × Number zonal.zonal_refusal_of zonal.lod_of zonal.lod_or (pos 0) (zonal.zonal_of d m)
      × Number zonal.zonal_refusal_of zonal.rate_of zonal.rate_or (pos 0) (zonal.zonal_of d m)
  -- (f) offsets
  pub offsets : (d : ℤ) (m : ℕ) → nutation.nutation_refusal_of (nutation.nutation_of d m) ≡ first_refusal (refusal8 d ∷ refusal9 m ∷ [])
  pub offsets_numbers : (d : ℤ) (m : ℕ)
      → Number nutation.nutation_refusal_of nutation.x_of nutation.x_or (pos 0) (nutation.nutation_of d m)
      × Number nutation.nutation_refusal_of nutation.y_of nutation.y_or (pos 0) (nutation.nutation_of d m)
      × Number nutation.nutation_refusal_of nutation.uncertainty_of nutation.uncertainty_or 0 (nutation.nutation_of d m)
  -- the probes have no refusal of their own: beside one of their edition they are 0
  pub probes_zeroed : (d : ℤ) (m : ℕ) → (nutation.nutation_refusal_of (nutation.nutation_of d m) ≡ 0 → ⊥) → probes_of d m ≡ 0
  -- (f) with rows from the caller
  pub rows_offsets : (s : List ℕ) (d : ℤ) (m : ℕ) → nutation.nutation_refusal_of (nutation.nutation_rows_of s d m)
      ≡ first_refusal (refusal21 s ∷ refusal22 s ∷ refusal23 s ∷ refusal24 s ∷ refusal8 d ∷ refusal9 m ∷ [])
  pub rows_offsets_numbers : (s : List ℕ) (d : ℤ) (m : ℕ)
      → Number nutation.nutation_refusal_of nutation.x_of nutation.x_or (pos 0) (nutation.nutation_rows_of s d m)
      × Number nutation.nutation_refusal_of nutation.y_of nutation.y_or (pos 0) (nutation.nutation_rows_of s d m)
      × Number nutation.nutation_refusal_of nutation.uncertainty_of nutation.uncertainty_or 0 (nutation.nutation_rows_of s d m)
  pub rows_probes_zeroed : (s : List ℕ) (d : ℤ) (m : ℕ) → (nutation.nutation_refusal_of (nutation.nutation_rows_of s d m) ≡ 0 → ⊥) → probes_rows_of s d m ≡ 0
  -- (g) one record
  pub record_write : (d : ℤ) (m n : ℕ) → write_refusal d m n ≡ first_refusal (refusal8 d ∷ refusal9 m ∷ refusal12 n 30 ∷ [])
  pub record_write_keeps : (d : ℤ) (m : ℕ) (ut1 lod rate : ℤ) (old : List ℕ) → (write_refusal d m (length old) ≡ 0 → ⊥) → written d m ut1 lod rate old ≡ old
  pub record_read : (s : List ℕ) → read_refusal_of (read_of s)
      ≡ first_refusal (refusal12 (length s) 30 ∷ refusal14 s ∷ refusal13 s ∷ refusal15 s ∷ refusal16 s
      ∷ refusal8 (record_day_word s) ∷ refusal9 (record_time_word s % 137_438_953_472) ∷ refusal10 (record_day_word s) (record_time_word s) ∷ [])
  pub record_read_numbers : (s : List ℕ)
      → Number read_refusal_of record_day_of record_day_or (pos 0) (read_of s)
      × Number read_refusal_of record_micros_of record_micros_or 0 (read_of s)
      × Number read_refusal_of record_ut1_of record_ut1_or (pos 0) (read_of s)
      × Number read_refusal_of record_lod_of record_lod_or (pos 0) (read_of s)
      × Number read_refusal_of record_rate_of record_rate_or (pos 0) (read_of s)
  -- (g) a run
  pub run_write : (d : ℤ) (m count step n : ℕ) → run_refusal d m count step n
      ≡ first_refusal (refusal17 count ∷ refusal18 step ∷ refusal8 d ∷ refusal9 m ∷ refusal8_last (later_day d m ((count - 1) * step)) ∷ refusal12 n (30 * count) ∷ [])
  pub run_write_keeps : (d : ℤ) (m count step : ℕ) (old : List ℕ) → (run_refusal d m count step (length old) ≡ 0 → ⊥) → run_written d m count step old ≡ old
  -- (h) UTC
  pub utc_to_tt : (r : Reading) → instant_refusal_of (tt_of r) ≡ first_refusal (reading_refusals r)
  pub utc_to_tt_numbers : (r : Reading) → Number instant_refusal_of instant_day_of instant_day_or (pos 0) (tt_of r) × Number instant_refusal_of instant_micros_of instant_micros_or 0 (tt_of r)
  pub tt_to_utc : (d : ℤ) (m : ℕ) → utc.reading_refusal_of (utc.utc_of d m) ≡ first_refusal (refusal8 d ∷ refusal9 m ∷ refusal19_tt d m ∷ refusal20_tt d m ∷ [])
  pub tt_to_utc_numbers : (d : ℤ) (m : ℕ)
      → Number utc.reading_refusal_of utc.reading_year_of utc.reading_year_or 0 (utc.utc_of d m)
      × Number utc.reading_refusal_of utc.reading_month_of utc.reading_month_or 0 (utc.utc_of d m)
      × Number utc.reading_refusal_of utc.reading_day_of utc.reading_day_or 0 (utc.utc_of d m)
      × Number utc.reading_refusal_of utc.reading_hour_of utc.reading_hour_or 0 (utc.utc_of d m)
      × Number utc.reading_refusal_of utc.reading_minute_of utc.reading_minute_or 0 (utc.utc_of d m)
      × Number utc.reading_refusal_of utc.reading_second_of utc.reading_second_or 0 (utc.utc_of d m)
      × Number utc.reading_refusal_of utc.reading_microsecond_of utc.reading_microsecond_or 0 (utc.utc_of d m)
  -- (i) rescue
  pub rescue : (s : List ℕ) (n m : ℕ) → rescue_refusal_of (rescue_of s n m)
      ≡ first_refusal (refusal25 s ∷ refusal12_two n (30 * length (walk s).kept) m (8 * length (ranges_of (walk s).passed)) ∷ [])
  pub rescue_zeroed : (s : List ℕ) (n m : ℕ) → (rescue_refusal_of (rescue_of s n m) ≡ 0 → ⊥)
      → (kept_of (rescue_of s n m) ≡ 0) × (ranges_number_of (rescue_of s n m) ≡ 0) × (passed_of (rescue_of s n m) ≡ 0)
  pub rescue_keeps : (s records list : List ℕ) → (rescue_refusal_of (rescue_of s (length records) (length list)) ≡ 0 → ⊥)
      → (records_after s (length list) records ≡ records) × (list_after s (length records) list ≡ list)
  -- (j) angles: without a refusal the whole answer leaves the eleven that their own calls give, whatever stood there; beside one each call of one gives +0,
  -- and the eleven that stood there stay
  pub angles : (y : ℕ) (d : Float) → angles_refusal_of (schwiderski_of y d) ≡ first_refusal (refusal1_angles y ∷ refusal26 y d ∷ [])
  pub angles_same : (y : ℕ) (d : Float) → angles_refusal_of (schwiderski_of y d) ≡ 0 → (old : List Float) → angles_or old (schwiderski_of y d) ≡ eleven (schwiderski_of y d)
  pub angles_zeroed : (y : ℕ) (d : Float) → (angles_refusal_of (schwiderski_of y d) ≡ 0 → ⊥) → (which : Angles → Float) → angle_of which (schwiderski_of y d) ≡ zero64
  pub angles_kept : (y : ℕ) (d : Float) → (angles_refusal_of (schwiderski_of y d) ≡ 0 → ⊥) → (old : List Float) → angles_or old (schwiderski_of y d) ≡ old
  -- (k) comparison: the first file's refusals, the second's, and that of the list
  pub compare : (s t : List ℕ) (n : ℕ) → compare_refusal_of (compare_of s t n)
      ≡ first_refusal (file_refusals s ++ (file_refusals t ++ refusal12 n (37 * length (entries_of s t)) ∷ []))
  pub compare_zeroed : (s t : List ℕ) (n : ℕ) → (compare_refusal_of (compare_of s t n) ≡ 0 → ⊥) → entries_number_of (compare_of s t n) ≡ 0
  pub compare_keeps : (s t list : List ℕ) → (compare_refusal_of (compare_of s t (length list)) ≡ 0 → ⊥) → compared.list_after s t list ≡ list
