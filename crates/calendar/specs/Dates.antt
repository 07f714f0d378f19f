-- Service (a): Gregorian dates and day numbers. Leap years, the lengths of the months, and days counted from 1600-01-01.
use Rattle.std.specs.Prelude.{ℕ, zero, suc, ◌+◌, ◌-◌, ◌%◌, Bool, cond, not, ◌&&◌, ◌||◌, List, [], ◌∷◌, eqb, ltb, ℤ, pos, take, get_or, Result, Ok, Err}
use Rattle.calendar.specs.Limits.{first_year, last_year}
use Rattle.instants.specs.Refusals.{Case, case, refused_or, refusal_of}
use Rattle.instants.specs.Instants.{outside, day_index, day_at_index}
use Rattle.calendar.specs.declared.Date.{Date}
use Rattle.instants.specs.declared.refusal.Refusal.{Refusal}
use Rattle.instants.specs.declared.refusal.Refusal.TheVariants.{Year, Month, DayOfMonth, Day}

-- the date of a year, a month and a day
abbrev pub date : ℕ → ℕ → ℕ → Date
date y m d = record { year = y; month = m; day = d }

-- every fourth year, but of the hundredth years only every four-hundredth
unfoldable pub leap_year : ℕ → Bool
leap_year y = eqb (y % 4) 0 && (not (eqb (y % 100) 0) || eqb (y % 400) 0)

-- the lengths of the twelve months, in a leap year and in another
unfoldable pub month_lengths : Bool → List ℕ
month_lengths leap = 31 ∷ cond leap 29 28 ∷ 31 ∷ 30 ∷ 31 ∷ 30 ∷ 31 ∷ 31 ∷ 30 ∷ 31 ∷ 30 ∷ 31 ∷ []

-- the length of the month m of the year y
unfoldable pub month_length : ℕ → ℕ → ℕ
month_length y m = get_or (month_lengths (leap_year y)) (m - 1) 0

-- the sum of a list
unfoldable pub sum : List ℕ → ℕ
sum [] = 0
sum (x ∷ xs) = x + sum xs

-- the days of a year
unfoldable pub year_length : ℕ → ℕ
year_length y = sum (month_lengths (leap_year y))

-- the days of the k years from 1600 on
unfoldable pub days_of_years : ℕ → ℕ
days_of_years zero = 0
days_of_years (suc k) = days_of_years k + year_length (1600 + k)

-- the days of the year y before its month m
unfoldable pub days_before : ℕ → ℕ → ℕ
days_before y m = sum (take (m - 1) (month_lengths (leap_year y)))

-- the days from 1600-01-01 to a date
unfoldable pub date_index : Date → ℕ
date_index t = days_of_years (t.year - 1600) + days_before t.year t.month + (t.day - 1)

-- the day after a date
unfoldable pub next : Date → Date
next t =
    cond (ltb t.day (month_length t.year t.month)) (date t.year t.month (t.day + 1))
    (cond (ltb t.month 12) (date t.year (t.month + 1) 1)
    (date (t.year + 1) 1 1))

-- the date n days after 1600-01-01
unfoldable pub date_after : ℕ → Date
date_after zero = date 1600 1 1
date_after (suc n) = next (date_after n)

-- the refusals of a date
abbrev pub date_cases : (y m d : ℕ) → List Case
date_cases y m d =
    case Year (ltb y first_year || ltb last_year y)
    ∷ case Month (ltb m 1 || ltb 12 m)
    ∷ case DayOfMonth (ltb d 1 || ltb (month_length y m) d)
    ∷ []

-- a date's day number, or its refusal
unfoldable pub day_of : (y m d : ℕ) → Result ℤ Refusal
day_of y m d = refused_or Err (date_cases y m d) (Ok (day_at_index (date_index (date y m d))))

-- the refusal of a day number
abbrev pub day_cases : ℤ → List Case
day_cases z = case Day (outside z) ∷ []

-- a day number's date, or its refusal
unfoldable pub date_of : ℤ → Result Date Refusal
date_of z = refused_or Err (day_cases z) (Ok (date_after (day_index z)))

-- the numbers of an answer, or z where it is a refusal: what the call of the whole answer leaves where z was
abbrev pub day_number_or : ℤ → Result ℤ Refusal → ℤ
day_number_or z (Ok d) = d
day_number_or z (Err n) = z

abbrev pub year_or : ℕ → Result Date Refusal → ℕ
year_or z (Ok t) = t.year
year_or z (Err n) = z

abbrev pub month_or : ℕ → Result Date Refusal → ℕ
month_or z (Ok t) = t.month
month_or z (Err n) = z

abbrev pub day_of_month_or : ℕ → Result Date Refusal → ℕ
day_of_month_or z (Ok t) = t.day
day_of_month_or z (Err n) = z

-- what the call of one number gives: 0 beside a refusal
abbrev pub day_number_of : Result ℤ Refusal → ℤ
day_number_of = day_number_or (pos 0)

abbrev pub year_of : Result Date Refusal → ℕ
year_of = year_or 0

abbrev pub month_of : Result Date Refusal → ℕ
month_of = month_or 0

abbrev pub day_of_month_of : Result Date Refusal → ℕ
day_of_month_of = day_of_month_or 0

-- the refusal number, 0 for none
abbrev pub date_refusal_of : Result ℤ Refusal → ℕ
date_refusal_of = refusal_of

abbrev pub day_refusal_of : Result Date Refusal → ℕ
day_refusal_of = refusal_of
