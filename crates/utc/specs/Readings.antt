-- UTC readings: a date and a time of day as a clock of UTC shows them, and which of them are accepted.
use Rattle.std.specs.Prelude.{ℕ, ◌≡◌, cond, ◌&&◌, List, [], ◌∷◌, ◌++◌, eqb, ltb, leb}
use Rattle.instants.specs.Refusals.{Case, case, first_refusal}
use Rattle.calendar.specs.Dates.{date, date_index, date_cases}
use Rattle.calendar.specs.Times.{micros_of_time, time_cases}
use Rattle.utc.specs.Table.{first_step, expiry, has_second60}
use Rattle.utc.specs.declared.Reading.{Reading}
use Rattle.instants.specs.declared.refusal.Refusal.TheVariants.{UtcEarly, UtcExpired}

-- the reading of seven numbers
abbrev pub reading : (year month day hour minute second microsecond : ℕ) → Reading
reading year month day hour minute second microsecond =
    record { year = year; month = month; day = day; hour = hour; minute = minute; second = second; microsecond = microsecond }

-- the index of a reading's day
abbrev pub reading_index : Reading → ℕ
reading_index r = date_index (date r.year r.month r.day)

-- the microseconds since 0 h of that day
abbrev pub reading_micros : Reading → ℕ
reading_micros r = micros_of_time r.hour r.minute r.second r.microsecond

-- the last second of a minute of the day n: 60 at 23:59 of a day that has a second 60, else 59
abbrev pub last_second : ℕ → ℕ → ℕ → ℕ
last_second n hour minute = cond ((eqb hour 23 && eqb minute 59) && has_second60 n) 60 59

-- the refusals of a day that the list does not cover
abbrev pub cover_cases : ℕ → List Case
cover_cases n = case UtcEarly (ltb n (date_index first_step.from)) ∷ case UtcExpired (leb (date_index expiry) n) ∷ []

-- the refusals of a reading
abbrev pub reading_cases : Reading → List Case
reading_cases r =
    date_cases r.year r.month r.day
    ++ (time_cases (last_second (reading_index r) r.hour r.minute) r.hour r.minute r.second r.microsecond ++ cover_cases (reading_index r))

-- an accepted reading: no case applies
abbrev pub AcceptedReading : Reading → Type 0
AcceptedReading r = first_refusal (reading_cases r) ≡ 0
