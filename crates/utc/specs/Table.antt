-- The IERS list of leap seconds: TAI - UTC from each date on, in whole seconds, and the day on which the list expires.
use Rattle.std.specs.Prelude.{ℕ, ◌+◌, ◌*◌, Bool, false, cond, ◌||◌, List, [], ◌∷◌, eqb, ltb}
use Rattle.calendar.specs.Limits.{second_micros}
use Rattle.calendar.specs.Dates.{date, date_index}
use Rattle.calendar.specs.declared.Date.{Date}

-- a row: a date, and TAI - UTC from that date on
pub record Step : Type 0 where
  pub from : Date
  pub seconds : ℕ

-- the row of a date and its seconds
abbrev pub step : (year month day seconds : ℕ) → Step
step year month day seconds = record { from = date year month day; seconds = seconds }

-- the first row
unfoldable pub first_step : Step
first_step = step 1972 1 1 10

-- the 27 steps after it
unfoldable pub later_steps : List Step
later_steps =
    step 1972 7 1 11
    ∷ step 1973 1 1 12
    ∷ step 1974 1 1 13
    ∷ step 1975 1 1 14
    ∷ step 1976 1 1 15
    ∷ step 1977 1 1 16
    ∷ step 1978 1 1 17
    ∷ step 1979 1 1 18
    ∷ step 1980 1 1 19
    ∷ step 1981 7 1 20
    ∷ step 1982 7 1 21
    ∷ step 1983 7 1 22
    ∷ step 1985 7 1 23
    ∷ step 1988 1 1 24
    ∷ step 1990 1 1 25
    ∷ step 1991 1 1 26
    ∷ step 1992 7 1 27
    ∷ step 1993 7 1 28
    ∷ step 1994 7 1 29
    ∷ step 1996 1 1 30
    ∷ step 1997 7 1 31
    ∷ step 1999 1 1 32
    ∷ step 2006 1 1 33
    ∷ step 2009 1 1 34
    ∷ step 2012 7 1 35
    ∷ step 2015 7 1 36
    ∷ step 2017 1 1 37
    ∷ []

-- the day on which the list expires
abbrev pub expiry : Date
expiry = date 2025 6 28

-- TT - TAI, in microseconds
abbrev pub tt_minus_tai : ℕ
tt_minus_tai = 32_184_000

-- the seconds of the last of these rows that has begun by the day of index n, or s where none has
unfoldable pub begun : ℕ → List Step → ℕ → ℕ
begun s [] n = s
begun s (r ∷ rs) n = cond (ltb n (date_index r.from)) s (begun r.seconds rs n)

-- TAI - UTC on the day of index n, in seconds, from 1972-01-01 on
unfoldable pub tai_minus_utc : ℕ → ℕ
tai_minus_utc n = begun first_step.seconds later_steps n

-- TT - UTC on that day, in microseconds
abbrev pub tt_minus_utc : ℕ → ℕ
tt_minus_utc n = tai_minus_utc n * second_micros + tt_minus_tai

-- whether the day of index n is the day before one of these rows
unfoldable pub is_eve : List Step → ℕ → Bool
is_eve [] n = false
is_eve (r ∷ rs) n = eqb (n + 1) (date_index r.from) || is_eve rs n

-- whether its last minute has a second 60
unfoldable pub has_second60 : ℕ → Bool
has_second60 n = is_eve later_steps n
