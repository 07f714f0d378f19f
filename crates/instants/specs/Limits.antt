-- The limits of an instant, where a day's index counts from, and the span of days that the sums cover.
use Rattle.std.specs.Prelude.{ℕ, ℤ, pos}

-- the day numbers of 1900-01-01 and 2100-12-31
abbrev pub first_day : ℤ
first_day = pos 15020

abbrev pub last_day : ℤ
last_day = pos 88433

-- the microseconds of a day
abbrev pub day_micros : ℕ
day_micros = 86_400_000_000

-- the day number of 1600-01-01, from which a day's index counts, is minus this
abbrev pub index_offset : ℕ
index_offset = 94553

-- the days from 1600-01-01 to 2400-12-31: an index below this is covered by the distances
abbrev pub days_covered : ℕ
days_covered = 292560
