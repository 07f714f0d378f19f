-- UTC days as they follow one another in TT: the next begins a day later, or a day and a second where there is a second 60. Assumes nothing.
use Prim.Native.Nat.{ℕ, ◌+◌, ◌*◌, ◌≤◌}
use mathlib.Core.Path.{◌≡◌, refl}
use native.Mathlib.Omega.{arith}
use native.Mathlib.Decide.{dec_le}
use Rattle.instants.specs.Limits.{day_micros}
use Rattle.calendar.specs.Limits.{second_micros}
use Rattle.calendar.specs.Dates.{leap_year, month_lengths, sum, year_length, days_of_years, days_before, date_index}
use Rattle.utc.specs.Table.{first_step, expiry, has_second60}
use Rattle.utc.specs.Conversions.{day_begins}
use Rattle.utc.proofs.Steps.{extra, next_tai, tai_most, tai_first, tai_last}

-- the first day of the list, and the day on which it expires
pub first_index_lem : date_index first_step.from ≡ 135870
unfolding first_step date_index days_of_years days_before year_length sum month_lengths leap_year
first_index_lem = refl

pub expiry_index : date_index expiry ≡ 155407
unfolding date_index days_of_years days_before year_length sum month_lengths leap_year
expiry_index = refl

-- the microseconds of a UTC day
abbrev pub day_length : ℕ → ℕ
day_length n = day_micros + extra (has_second60 n) * second_micros

pub next_begins : (n : ℕ) → day_begins (n + 1) ≡ day_begins n + day_length n
unfolding day_begins
next_begins n = omega (arith, next_tai n)

-- a UTC day begins 32.184 to 69.184 seconds after 0 h TT of its date
pub begins_from : (n : ℕ) → (n + 36527) * day_micros + 43_200_000_000 + 32_184_000 ≤ day_begins n
unfolding day_begins
begins_from n = omega arith

pub begins_to : (n : ℕ) → day_begins n ≤ (n + 36527) * day_micros + 43_200_000_000 + 69_184_000
unfolding day_begins
begins_to n = omega (arith, tai_most n)

-- a later day begins later
pub begins_later : (n k : ℕ) → n ≤ k → day_begins n ≤ day_begins k
begins_later n k h = by (dec_le k n)
  where
    by : Dec (k ≤ n) → day_begins n ≤ day_begins k
    by (yes p) = let e : n ≡ k = omega (arith, p) in rw e (omega arith)
    by (no p) = omega (arith, p, begins_to n, begins_from k)

-- the list covers a time from the beginning of its first day to that of the day on which it expires
pub first_begins : day_begins (date_index first_step.from) ≡ 14_895_144_042_184_000
unfolding day_begins
first_begins = rw (first_index_lem, tai_first 135870 (omega arith)) refl

pub expiry_begins : day_begins (date_index expiry) ≡ 16_583_140_869_184_000
unfolding day_begins
expiry_begins = rw (expiry_index, tai_last 155407 (omega arith)) refl
