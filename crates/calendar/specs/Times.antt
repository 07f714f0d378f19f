-- Service (b): a date and a time of day as an instant.
use Rattle.std.specs.Prelude.{ℕ, ◌+◌, ◌*◌, List, [], ◌∷◌, ◌++◌, ltb, ℤ, pos, Result, Ok, Err}
use Rattle.instants.specs.Refusals.{Case, case, refused_or, refusal_of}
use Rattle.instants.specs.Instants.{instant, day_at_index}
use Rattle.calendar.specs.Dates.{date, date_index, date_cases}
use Rattle.calendar.specs.Limits.{second_micros}
use Rattle.instants.specs.declared.Instant.{Instant}
use Rattle.instants.specs.declared.refusal.Refusal.{Refusal}
use Rattle.instants.specs.declared.refusal.Refusal.TheVariants.{Hour, Minute, Second, Microsecond}

-- the microseconds of a time of day
abbrev pub micros_of_time : ℕ → ℕ → ℕ → ℕ → ℕ
micros_of_time hour minute second microsecond = ((hour * 60 + minute) * 60 + second) * second_micros + microsecond

-- the refusals of a time of day, in a minute whose last second is `last`
abbrev pub time_cases : (last hour minute second microsecond : ℕ) → List Case
time_cases last hour minute second microsecond = case Hour (ltb 23 hour) ∷ case Minute (ltb 59 minute) ∷ case Second (ltb last second) ∷ case Microsecond (ltb 999_999 microsecond) ∷ []

-- the instant of a date and a time, or its refusal: the date's come first
unfoldable pub instant_of : (year month day hour minute second microsecond : ℕ) → Result Instant Refusal
instant_of year month day hour minute second microsecond =
    refused_or Err (date_cases year month day ++ time_cases 59 hour minute second microsecond)
    (Ok (instant (day_at_index (date_index (date year month day))) (micros_of_time hour minute second microsecond)))

-- the numbers of an answer, or z where it is a refusal: what the call of the whole answer leaves where z was
abbrev pub instant_day_or : ℤ → Result Instant Refusal → ℤ
instant_day_or z (Ok t) = t.day
instant_day_or z (Err n) = z

abbrev pub instant_micros_or : ℕ → Result Instant Refusal → ℕ
instant_micros_or z (Ok t) = t.micros
instant_micros_or z (Err n) = z

-- what the call of one number gives: 0 beside a refusal
abbrev pub instant_day_of : Result Instant Refusal → ℤ
instant_day_of = instant_day_or (pos 0)

abbrev pub instant_micros_of : Result Instant Refusal → ℕ
instant_micros_of = instant_micros_or 0

-- the refusal number, 0 for none
abbrev pub instant_refusal_of : Result Instant Refusal → ℕ
instant_refusal_of = refusal_of
