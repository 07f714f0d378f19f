-- The arithmetic on groups of 400 and 100 years and on years, counted from 1201-01-01, so that a leap year comes last in its group. The last century of
-- 400 years is a day longer than the others, and so may be the last year of four: with days counted in quarters, and three quarters more, the quotients
-- give the last one its day. A remainder is below the length of its year: only a fourth year has a 366th day, and only the last fourth year of a century
-- that ends in a leap year reaches it. Assumes nothing.
use Prim.Native.Nat.{ℕ, ◌+◌, ◌-◌, ◌*◌, ◌/◌, ◌%◌, ◌<◌, ◌≤◌}
use mathlib.Core.Path.{◌≡◌, refl, ap, sym, ◌∙◌}
use mathlib.Core.Logic.{◌⊎◌, inl, inr, ⊎_elim}
use native.Mathlib.Decide.{dec_le, ℕ_discrete}
use native.Mathlib.Nat.{le_antisymm, mod-eq_of_lt, mul-add-mod_self_left}
use native.Mathlib.Omega.{arith}
use Rattle.calendar.specs.Dates.{days_of_years, days_before, date_index, date_after, date}
use Rattle.calendar.specs.Inner.{leap_day, twelfths_at, IsYearDay}
use Rattle.calendar.specs.declared.YearDay.{YearDay}
use Rattle.calendar.proofs.Dates.{unique, after}
use Rattle.calendar.proofs.Laws.{Leap, not4, not100, not400, by400, leap_cases, years_counted}
use Rattle.calendar.proofs.Months.{month_found}

module _ (a b c d : ℕ) (hb : b ≤ 3) (hc : c ≤ 24) (hd : d ≤ 3) (k : ℕ) (hk : k + 399 ≡ 400 * a + 100 * b + 4 * c + d) where
  q4 : (k + 3) / 4 + 99 ≡ 100 * a + 25 * b + c
  q4 = omega arith

  q100 : (k + 99) / 100 + 3 ≡ 4 * a + b
  q100 = omega arith

  q400 : (k + 399) / 400 ≡ a
  q400 = omega arith

  group_days : days_of_years k + 145731 ≡ 146097 * a + 36524 * b + 1461 * c + 365 * d
  group_days =
      let s : 365 * k + (k + 3) / 4 + (k + 399) / 400 - (k + 99) / 100 + 145731 ≡ 146097 * a + 36524 * b + 1461 * c + 365 * d =
      sums ((k + 3) / 4) ((k + 399) / 400) ((k + 99) / 100) q4 q400 q100 in
      ap (λ (x : ℕ). x + 145731) (years_counted k) ∙ s
    where
      sums : (x y z : ℕ) → x + 99 ≡ 100 * a + 25 * b + c → y ≡ a → z + 3 ≡ 4 * a + b → 365 * k + x + y - z + 145731 ≡ 146097 * a + 36524 * b + 1461 * c + 365 * d
      sums x y z p q r = omega arith

century_end : (x c : ℕ) → c ≤ 24 → (1204 + 100 * x + 4 * c) % 100 ≡ 0 → c ≡ 24
century_end x c h p = by (dec_le 24 c)
  where
    by : Dec (24 ≤ c) → c ≡ 24
    by (yes q) = le_antisymm h q
    by (no q) =
        let l : 4 * c + 4 < 100 = omega (arith, q) in
        let w : 1204 + 100 * x + 4 * c ≡ 100 * (12 + x) + (4 * c + 4) = omega arith in
        let e : 0 ≡ 4 * c + 4 = sym p ∙ (ap (λ (n : ℕ). n % 100) w ∙ (mul-add-mod_self_left 100 (12 + x) (4 * c + 4) ∙ mod-eq_of_lt l)) in
        omega arith

-- the last day of a group of four years is in a leap year, but at the end of three centuries
last_leap : (a b c : ℕ) → b ≤ 3 → c ≤ 24 → (c ≡ 24 → b ≡ 3) → (l : ℕ) → Leap (1204 + 400 * a + 100 * b + 4 * c) l → l ≡ 1
last_leap a b c hb hc h l (not4 p) = absurd (p (omega arith))
last_leap a b c hb hc h l (not100 p q) = refl
last_leap a b c hb hc h l (not400 p q) =
    let w : 1204 + 400 * a + 100 * b + 4 * c ≡ 1204 + 100 * (4 * a + b) + 4 * c = omega arith in
    let e : c ≡ 24 = century_end (4 * a + b) c hc (ap (λ (x : ℕ). x % 100) (sym w) ∙ p) in
    let f : b ≡ 3 = h e in
    absurd (q (omega arith))
last_leap a b c hb hc h l (by400 p) = refl

-- A day's place: `a` groups of 400 years and `ra` days; in 4 ra + 3 quarters of a day `b` centuries and `s` quarters; in 4 (s / 4) + 3 quarters `y` years
-- and `r` quarters.
module _ (n a ra b s y r : ℕ) (t : n + 145731 ≡ 146097 * a + ra) (la : ra < 146097) (tb : 4 * ra + 3 ≡ 146097 * b + s) (ls : s < 146097)
    (ty : 4 * (s / 4) + 3 ≡ 1461 * y + r) (lr : r < 1461) where
  -- the fours of years, the years of the last four, and the day of the year
  abbrev c : ℕ
  c = y / 4

  abbrev d : ℕ
  d = y % 4

  abbrev e : ℕ
  e = r / 4

  b_small : b ≤ 3
  b_small = omega arith

  c_small : c ≤ 24
  c_small = omega arith

  d_small : d ≤ 3
  d_small = omega arith

  -- the days of a place
  century_days : ra ≡ 36524 * b + s / 4
  century_days = omega (arith, b_small)

  year_days : s / 4 ≡ 1461 * c + 365 * d + e
  year_days = omega arith

  in_century : (s / 4 < 36524) ⊎ ((b ≡ 3) × (s / 4 < 36525))
  in_century = by (dec_le 36524 (s / 4))
    where
      by : Dec (36524 ≤ s / 4) → (s / 4 < 36524) ⊎ ((b ≡ 3) × (s / 4 < 36525))
      by (yes p) = let q : s ≡ 146096 = omega arith in inr (omega (arith, century_days), omega arith)
      by (no p) = inl (omega (arith, p))

  in_year_lem : (e < 365) ⊎ ((d ≡ 3) × (e < 366))
  in_year_lem = by (dec_le 365 e)
    where
      by : Dec (365 ≤ e) → (e < 365) ⊎ ((d ≡ 3) × (e < 366))
      by (yes p) = let q : r ≡ 1460 = omega arith in inr (omega (arith, year_days), omega arith)
      by (no p) = inl (omega (arith, p))

  full : e ≡ 365 → c ≡ 24 → b ≡ 3
  full p q = ⊎_elim (λ u. absurd (⊎_elim (λ v. omega arith) (λ v. omega (arith, v.0, year_days)) in_year_lem)) (λ u. u.0) in_century

  sum : n + 145731 ≡ 146097 * a + 36524 * b + 1461 * c + 365 * d + e
  sum = omega (arith, century_days, year_days)

  late : 399 ≤ 400 * a + 100 * b + 4 * c + d
  late = by (dec_le 1 a)
    where
      by : Dec (1 ≤ a) → 399 ≤ 400 * a + 100 * b + 4 * c + d
      by (yes p) = omega arith
      by (no p) =
          let u : 145731 ≤ ra = omega (arith, p) in
          let x : b ≡ 3 = omega (arith, b_small) in
          omega (arith, century_days)

  abbrev pub year : ℕ
  year = 1201 + 400 * a + 100 * b + y

  pub placed : IsYearDay n (record { year = year; rest = e })
  placed =
      let k : (year - 1600) + 399 ≡ 400 * a + 100 * b + 4 * c + d = omega (arith, late) in
      let g : days_of_years (year - 1600) + 145731 ≡ 146097 * a + 36524 * b + 1461 * c + 365 * d = group_days a b c d b_small c_small d_small (year - 1600) k in
      record { late = omega (arith, late); counts = omega (arith, g, sum); inside = ⊎_elim (λ q. omega arith) whole in_year_lem }
    where
      full_year : d ≡ 3 → Dec (e ≡ 365) → e < 366 → e < 365 + leap_day year
      full_year q (yes r) h =
          let y : year ≡ 1204 + 400 * a + 100 * b + 4 * c = omega arith in
          let l : leap_day year ≡ 1 = ap leap_day y ∙ last_leap a b c b_small c_small (full r) _ (leap_cases (1204 + 400 * a + 100 * b + 4 * c)) in
          omega arith
      full_year q (no r) h = omega (arith, r)

      whole : (d ≡ 3) × (e < 366) → e < 365 + leap_day year
      whole q = full_year q.0 (ℕ_discrete e 365) q.1

-- The date of a place.
index_by : (y m d n e : ℕ) → 1 ≤ d → days_before y m + d ≡ e + 1 → days_of_years (y - 1600) + e ≡ n → date_index (date y m d) ≡ n
unfolding date_index
index_by y m d n e h q r = omega arith

pub date_of_lem : (n : ℕ) (p : YearDay) (w : ℕ) → IsYearDay n p → w ≡ twelfths_at (leap_day p.year) p.rest → date p.year (w / 367) (w % 367 / 12 + 1) ≡ date_after n
date_of_lem n p w h e =
    let k = month_found p.year p.rest w h.inside e in
    unique (date p.year (w / 367) (w % 367 / 12 + 1)) (date_after n)
    (record { late = h.late; one = k.one; twelve = k.twelve; first = k.first; last = k.last })
    (after n).valid
    (index_by p.year (w / 367) (w % 367 / 12 + 1) n p.rest k.first k.counts h.counts ∙ sym (after n).index)
