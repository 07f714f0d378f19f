-- Service (h): a UTC reading as an instant of Terrestrial Time, and back.
use Rattle.std.specs.Prelude.{ℕ, ◌+◌, ◌-◌, ◌*◌, ◌/◌, ◌%◌, cond, List, [], ◌∷◌, ◌++◌, ltb, leb, ℤ, Result, Ok, Err}
use Rattle.instants.specs.Refusals.{Case, case, refused_or, refusal_of}
use Rattle.instants.specs.Limits.{day_micros}
use Rattle.instants.specs.Instants.{instant, day_index, day_at_index, instant_cases}
use Rattle.instants.specs.Moments.{moment, moment_of}
use Rattle.instants.specs.declared.Instant.{Instant}
use Rattle.calendar.specs.Limits.{second_micros}
use Rattle.calendar.specs.Dates.{date_index, date_after}
use Rattle.utc.specs.Table.{first_step, expiry, tt_minus_utc}
use Rattle.utc.specs.Readings.{reading, reading_index, reading_micros, reading_cases}
use Rattle.utc.specs.declared.Reading.{Reading}
use Rattle.instants.specs.declared.refusal.Refusal.{Refusal}
use Rattle.instants.specs.declared.refusal.Refusal.TheVariants.{UtcEarly, UtcExpired}

-- ---- UTC to TT

-- the instant m microseconds after 0 h of the day of index n
abbrev pub instant_after : ℕ → ℕ → Instant
instant_after n m = instant (day_at_index (n + m / day_micros)) (m % day_micros)

-- the instant u microseconds after the beginning of the UTC day n: TT is ahead by TT - UTC of that day
abbrev pub tt_at : ℕ → ℕ → Instant
tt_at n u = instant_after n (u + tt_minus_utc n)

-- a reading's instant, or its refusal
unfoldable pub tt_of : Reading → Result Instant Refusal
tt_of r = refused_or Err (reading_cases r) (Ok (tt_at (reading_index r) (reading_micros r)))

-- ---- TT to UTC

-- the moment at which the UTC day of index n begins
unfoldable pub day_begins : ℕ → ℕ
day_begins n = moment n (tt_minus_utc n)

-- the refusals of a moment that the list does not cover
abbrev pub moment_cases : ℕ → List Case
moment_cases x = case UtcEarly (ltb x (day_begins (date_index first_step.from))) ∷ case UtcExpired (leb (day_begins (date_index expiry)) x) ∷ []

-- the UTC day at the moment x of the TT day i: the day i if it has begun, else the day before
abbrev pub utc_index : ℕ → ℕ → ℕ
utc_index i x = cond (ltb x (day_begins i)) (i - 1) i

-- the minute that u microseconds after 0 h are in, counted from 0 h: the last one of a day may have a second 60
abbrev pub minute_of_day : ℕ → ℕ
minute_of_day u = cond (ltb (u / 60_000_000) 1440) (u / 60_000_000) 1439

-- the reading u microseconds after the beginning of the UTC day n
abbrev pub reading_at : ℕ → ℕ → Reading
reading_at n u =
    reading (date_after n).year (date_after n).month (date_after n).day (minute_of_day u / 60) (minute_of_day u % 60)
    (u / second_micros - minute_of_day u * 60) (u % second_micros)

-- the reading at the moment x of the TT day i
abbrev pub reading_on : ℕ → ℕ → Reading
reading_on i x = reading_at (utc_index i x) (x - day_begins (utc_index i x))

-- an instant's reading, or its refusal
unfoldable pub utc_of : ℤ → ℕ → Result Reading Refusal
utc_of d m = refused_or Err (instant_cases d m ++ moment_cases (moment_of d m)) (Ok (reading_on (day_index d) (moment_of d m)))

-- ---- the numbers of an answer, or z where it is a refusal: what the call of the whole answer leaves where z was

abbrev pub reading_year_or : ℕ → Result Reading Refusal → ℕ
reading_year_or z (Ok r) = r.year
reading_year_or z (Err n) = z

abbrev pub reading_month_or : ℕ → Result Reading Refusal → ℕ
reading_month_or z (Ok r) = r.month
reading_month_or z (Err n) = z

abbrev pub reading_day_or : ℕ → Result Reading Refusal → ℕ
reading_day_or z (Ok r) = r.day
reading_day_or z (Err n) = z

abbrev pub reading_hour_or : ℕ → Result Reading Refusal → ℕ
reading_hour_or z (Ok r) = r.hour
reading_hour_or z (Err n) = z

abbrev pub reading_minute_or : ℕ → Result Reading Refusal → ℕ
reading_minute_or z (Ok r) = r.minute
reading_minute_or z (Err n) = z

abbrev pub reading_second_or : ℕ → Result Reading Refusal → ℕ
reading_second_or z (Ok r) = r.second
reading_second_or z (Err n) = z

abbrev pub reading_microsecond_or : ℕ → Result Reading Refusal → ℕ
reading_microsecond_or z (Ok r) = r.microsecond
reading_microsecond_or z (Err n) = z

-- what the call of one number gives: 0 beside a refusal
abbrev pub reading_year_of : Result Reading Refusal → ℕ
reading_year_of = reading_year_or 0

abbrev pub reading_month_of : Result Reading Refusal → ℕ
reading_month_of = reading_month_or 0

abbrev pub reading_day_of : Result Reading Refusal → ℕ
reading_day_of = reading_day_or 0

abbrev pub reading_hour_of : Result Reading Refusal → ℕ
reading_hour_of = reading_hour_or 0

abbrev pub reading_minute_of : Result Reading Refusal → ℕ
reading_minute_of = reading_minute_or 0

abbrev pub reading_second_of : Result Reading Refusal → ℕ
reading_second_of = reading_second_or 0

abbrev pub reading_microsecond_of : Result Reading Refusal → ℕ
reading_microsecond_of = reading_microsecond_or 0

-- the refusal number, 0 for none
abbrev pub reading_refusal_of : Result Reading Refusal → ℕ
reading_refusal_of = refusal_of
