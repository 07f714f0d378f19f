-- The years of a date, and the microseconds of a second.
use Rattle.std.specs.Prelude.{ℕ}

abbrev pub first_year : ℕ
first_year = 1900

abbrev pub last_year : ℕ
last_year = 2100

abbrev pub second_micros : ℕ
second_micros = 1_000_000
