-- What only the contracts of the code's own functions cite.
use Rattle.std.specs.Prelude.{ℕ, ◌+◌, ◌-◌, ◌*◌, ◌≤◌, ◌<◌, ◌≡◌, cond, ltb, Result, Ok, Err}
use Rattle.instants.specs.Refusals.{refused_or}
use Rattle.calendar.specs.Dates.{date, leap_year, days_of_years, date_index, date_cases}
use Rattle.calendar.specs.Times.{micros_of_time, time_cases}
use Rattle.calendar.specs.declared.YearDay.{YearDay}
use Rattle.instants.specs.declared.refusal.Refusal.{Refusal}

-- a leap year's extra day
unfoldable pub leap_day : ℕ → ℕ
leap_day y = cond (leap_year y) 1 0

-- an accepted date's index, or its refusal
unfoldable pub date_acceptance : (y m d : ℕ) → Result ℕ Refusal
date_acceptance y m d = refused_or Err (date_cases y m d) (Ok (date_index (date y m d)))

-- the microseconds since 0 h of an accepted time, or its refusal
unfoldable pub time_acceptance : (last hour minute second microsecond : ℕ) → Result ℕ Refusal
time_acceptance last hour minute second microsecond =
    refused_or Err (time_cases last hour minute second microsecond) (Ok (micros_of_time hour minute second microsecond))

-- the day e of a year, counted from 0, in twelfths of a day, where 367 count as a month: from 367 on, and 6 more to round; with thirty days for February
abbrev pub twelfths_at : ℕ → ℕ → ℕ
twelfths_at leap e = cond (ltb e (59 + leap)) (12 * e + 373) (12 * (e + 2 - leap) + 373)

-- p is the day n days after 1600-01-01
pub record IsYearDay (n : ℕ) (p : YearDay) : Type 0 where
  pub late : 1600 ≤ p.year
  pub counts : days_of_years (p.year - 1600) + p.rest ≡ n
  pub inside : p.rest < 365 + leap_day p.year
