-- Dates and their indices. The day after a date is a date whose index is one more: by whether the month goes on, the year goes on, or a year begins.
-- Two dates with one index are one, since an earlier year, an earlier month and an earlier day each end before a later one begins. So counting from
-- 1600-01-01 and the index are inverse. Assumes nothing.
use Prim.Native.Nat.{ℕ, zero, suc, ◌+◌, ◌-◌, ◌<◌, ◌≤◌}
use mathlib.Core.Path.{◌≡◌, refl, ap, sym, ◌∙◌, subst}
use mathlib.Core.Bool.{Bool, true, false, cond}
use native.Mathlib.Omega.{arith}
use native.Mathlib.Nat.{add-suc, add-zero, le_antisymm}
use native.Mathlib.Decide.{dec_le}
use lib.Dec.{ltb}
use borrow.Author.Tests.{ltb-true, ltb-false}
use Rattle.calendar.specs.declared.Date.{Date}
use Rattle.calendar.specs.Dates.{month_lengths, sum, month_length, days_of_years, days_before, date_index, next, date_after, date}
use Rattle.calendar.specs.Inner.{leap_day}
use Rattle.calendar.proofs.Laws.{year_length_lem}
use Rattle.calendar.proofs.Months.{month_next, month_last, month_inside, month_least, month_apart}

-- A date of the calendar, in 1600 or later.
pub record Valid (t : Date) : Type 0 where
  pub late : 1600 ≤ t.year
  pub one : 1 ≤ t.month
  pub twelve : t.month ≤ 12
  pub first : 1 ≤ t.day
  pub last : t.day ≤ month_length t.year t.month

-- the day after a date is a date, one further
pub record Steps (s t : Date) : Type 0 where
  pub valid : Valid t
  pub more : date_index t ≡ suc (date_index s)

years_one : (k : ℕ) → days_of_years (suc k) ≡ days_of_years k + (365 + leap_day (1600 + k))
unfolding days_of_years
years_one k = ap (λ (n : ℕ). days_of_years k + n) (year_length_lem (1600 + k))

years_suc : (y : ℕ) → 1600 ≤ y → days_of_years (y + 1 - 1600) ≡ days_of_years (y - 1600) + (365 + leap_day y)
years_suc y h =
    let e : y + 1 - 1600 ≡ suc (y - 1600) = omega arith in
    let f : 1600 + (y - 1600) ≡ y = omega arith in
    ap days_of_years e ∙ (years_one (y - 1600) ∙ ap (λ (k : ℕ). days_of_years (y - 1600) + (365 + leap_day k)) f)

before_one : (y : ℕ) → days_before y 1 ≡ 0
unfolding days_before sum month_lengths
before_one y = refl

pub step : (t : Date) → Valid t → Steps t (next t)
unfolding next date_index
step t v = by_day (ltb t.day (month_length t.year t.month)) refl
  where
    by_month : (b : Bool) → month_length t.year t.month ≤ t.day → ltb t.month 12 ≡ b → Steps t (cond b (date t.year (t.month + 1) 1) (date (t.year + 1) 1 1))
    by_month true d e =
        let m : t.month < 12 = ltb-true _ _ e in
        let s : 1 ≤ month_length t.year (t.month + 1) = month_least t.year (t.month + 1) (omega arith) (omega arith) in
        let n : days_before t.year (t.month + 1) ≡ days_before t.year t.month + month_length t.year t.month = month_next t.year t.month v.one m in
        record { valid = record { late = v.late; one = omega arith; twelve = omega arith; first = omega arith; last = s }; more = omega arith }
    by_month false d e =
        let m : t.month ≡ 12 = le_antisymm v.twelve (ltb-false _ _ e) in
        let l : days_before t.year t.month + month_length t.year t.month ≡ 365 + leap_day t.year = subst (λ (k : ℕ). days_before t.year k + month_length t.year k ≡ 365 + leap_day t.year) (sym m) (month_last t.year) in
        record { valid = record { late = omega (arith, v.late); one = omega arith; twelve = omega arith; first = omega arith; last = month_least (t.year + 1) 1 (omega arith) (omega arith) }; more = omega (arith, years_suc t.year v.late, before_one (t.year + 1)) }

    by_day : (b : Bool) → ltb t.day (month_length t.year t.month) ≡ b → Steps t (cond b (date t.year t.month (t.day + 1)) (cond (ltb t.month 12) (date t.year (t.month + 1) 1) (date (t.year + 1) 1 1)))
    by_day true e =
        let d : t.day < month_length t.year t.month = ltb-true _ _ e in
        record { valid = record { late = v.late; one = v.one; twelve = v.twelve; first = omega arith; last = omega arith }; more = omega (arith, v.first) }
    by_day false e = by_month (ltb t.month 12) (ltb-false _ _ e) refl

-- the date n days after 1600-01-01 is a date, and its index is n
pub record Found (n : ℕ) (t : Date) : Type 0 where
  pub valid : Valid t
  pub index : date_index t ≡ n

start_index : date_index (date 1600 1 1) ≡ 0
unfolding date_index days_of_years days_before sum month_lengths
start_index = refl

pub after : (n : ℕ) → Found n (date_after n)
unfolding date_after
after zero = record { valid = record { late = omega arith; one = omega arith; twelve = omega arith; first = omega arith; last = month_least 1600 1 (omega arith) (omega arith) }; index = start_index }
after (suc n) =
    let f : Found n (date_after n) = after n in
    let s : Steps (date_after n) (next (date_after n)) = step (date_after n) f.valid in
    record { valid = s.valid; index = s.more ∙ ap suc f.index }

-- Two dates with one index are one date.
years_mono : (k j : ℕ) → days_of_years (suc k) ≤ days_of_years (suc (k + j))
years_mono k zero = rw add-zero (omega arith)
years_mono k (suc j) =
    let h : days_of_years (suc k) ≤ days_of_years (suc (k + j)) = years_mono k j in
    rw (add-suc, years_one (suc (k + j))) (omega arith)

pub years_apart : (y z : ℕ) → 1600 ≤ y → y < z → days_of_years (y - 1600) + (365 + leap_day y) ≤ days_of_years (z - 1600)
years_apart y z h k =
    let e : suc (y - 1600 + (z - y - 1)) ≡ z - 1600 = omega arith in
    let m : days_of_years (suc (y - 1600)) ≤ days_of_years (z - 1600) = subst (λ (n : ℕ). days_of_years (suc (y - 1600)) ≤ days_of_years n) e (years_mono (y - 1600) (z - y - 1)) in
    let f : 1600 + (y - 1600) ≡ y = omega arith in
    let o : days_of_years (suc (y - 1600)) ≡ days_of_years (y - 1600) + (365 + leap_day y) = years_one (y - 1600) ∙ ap (λ (k : ℕ). days_of_years (y - 1600) + (365 + leap_day k)) f in
    omega arith

same_year : (s t : Date) → Valid s → Valid t → date_index s ≡ date_index t → t.year ≤ s.year
unfolding date_index
same_year s t v w e = by (dec_le t.year s.year)
  where
    by : Dec (t.year ≤ s.year) → t.year ≤ s.year
    by (yes p) = p
    by (no p) = omega (arith, p, years_apart s.year t.year v.late (omega (arith, p)), month_inside s.year s.month v.one v.twelve, v.first, v.last)

-- s is of the same year as t
same_month : (y m d k e : ℕ) → Valid (date y m d) → Valid (date y k e) → date_index (date y m d) ≡ date_index (date y k e) → k ≤ m
unfolding date_index
same_month y m d k e v w q = by (dec_le k m)
  where
    by : Dec (k ≤ m) → k ≤ m
    by (yes p) = p
    by (no p) = omega (arith, p, month_apart y m k v.one (omega (arith, p)) w.twelve, v.first, v.last, w.first)

same_day : (y m d e : ℕ) → 1 ≤ d → 1 ≤ e → date_index (date y m d) ≡ date_index (date y m e) → d ≡ e
unfolding date_index
same_day y m d e v w q = omega arith

in_month : (y m d k e : ℕ) → m ≡ k → Valid (date y m d) → Valid (date y k e) → date_index (date y m d) ≡ date_index (date y k e) → date y m d ≡ date y k e
in_month y m d k e p v w q =
    let f : date y m d ≡ date y k d = ap (λ (i : ℕ). date y i d) p in
    f ∙ ap (date y k) (same_day y k d e v.first w.first (ap date_index (sym f) ∙ q))

in_year_lem : (y m d k e : ℕ) → Valid (date y m d) → Valid (date y k e) → date_index (date y m d) ≡ date_index (date y k e) → date y m d ≡ date y k e
in_year_lem y m d k e v w q = in_month y m d k e (le_antisymm (same_month y k e m d w v (sym q)) (same_month y m d k e v w q)) v w q

pub unique : (s t : Date) → Valid s → Valid t → date_index s ≡ date_index t → s ≡ t
unique s t v w q =
    let p : s.year ≡ t.year = le_antisymm (same_year t s w v (sym q)) (same_year s t v w q) in
    let f : s ≡ date t.year s.month s.day = ap (λ (y : ℕ). date y s.month s.day) p in
    f ∙ in_year_lem t.year s.month s.day t.month t.day (subst Valid f v) w (ap date_index (sym f) ∙ q)

-- The date of an index is the date with that index: the two ways are inverse.
pub after_index : (t : Date) → Valid t → date_after (date_index t) ≡ t
after_index t v = unique (date_after (date_index t)) t (after (date_index t)).valid v (after (date_index t)).index

pub index_low : (t : Date) → days_of_years (t.year - 1600) ≤ date_index t
unfolding date_index
index_low t = omega arith

pub index_high : (t : Date) → Valid t → date_index t < days_of_years (t.year - 1600) + (365 + leap_day t.year)
unfolding date_index
index_high t v = omega (arith, month_inside t.year t.month v.one v.twelve, v.first, v.last)
