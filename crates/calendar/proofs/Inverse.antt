-- Dates and day numbers are inverse, and day numbers rise by one from a date to the next. A date is accepted exactly when its index is from that of
-- 1900-01-01 to that of 2100-12-31, and there an index and a day number differ by the offset. Assumes nothing.
use Prim.Native.Nat.{ℕ, suc, ◌+◌, ◌-◌, ◌≤◌}
use mathlib.Core.Path.{◌≡◌, refl, ap, sym, ◌∙◌, subst}
use mathlib.Core.Bool.{Bool, false, ◌||◌}
use native.Mathlib.Omega.{arith}
use native.Mathlib.Decide.{dec_le}
use native.Mathlib.Numerals.{add-one}
use lib.IntN.{ℤ, pos, ◌+ℤ◌, nat_abs, +ℤ_assoc, +ℤ_comm}
use borrow.Author.Tests.{le-ltb}
use Rattle.instants.proofs.Impossible.{impossible}
use Rattle.instants.proofs.FirstRefusal.{NoneApplies, none_answered, answered_none}
use Rattle.calendar.specs.declared.Date.{Date}
use Rattle.calendar.specs.Limits.{first_year, last_year}
use Rattle.instants.specs.Instants.{outside, day_index, day_at_index}
use Rattle.calendar.specs.Dates.{month_length, days_of_years, date_index, next, date_after, date, date_cases, day_of, day_cases, date_of}
use Rattle.calendar.specs.Inner.{date_acceptance}
use Rattle.calendar.proofs.Dates.{Valid, Found, after, after_index, index_low, index_high, years_apart}
use Rattle.instants.proofs.Signs.{index_up, day_natural, first_index, last_index}
use Rattle.instants.proofs.Accepted.{HasIndex, between, inside_index}
use Rattle.instants.specs.Limits.{index_offset}
use Rattle.calendar.proofs.Laws.{years_counted}
use Rattle.std.specs.Prelude.{Ok, Err}

-- A date is accepted: its year is in range, its month 1..12, and its day one of that month's.
pub record AcceptedDate (y m d : ℕ) : Type 0 where
  pub from : first_year ≤ y
  pub to : y ≤ last_year
  pub one : 1 ≤ m
  pub twelve : m ≤ 12
  pub first : 1 ≤ d
  pub last : d ≤ month_length y m

pub valid : (y m d : ℕ) → AcceptedDate y m d → Valid (date y m d)
valid y m d a = record { late = omega (arith, a.from); one = a.one; twelve = a.twelve; first = a.first; last = a.last }

-- an accepted date has its day number
accepted_day : (y m d : ℕ) → AcceptedDate y m d → day_of y m d ≡ Ok (day_at_index (date_index (date y m d)))
unfolding day_of
accepted_day y m d a =
    simp (le-ltb y first_year a.from, le-ltb last_year y a.to, le-ltb m 1 a.one, le-ltb 12 m a.twelve, le-ltb d 1 a.first, le-ltb (month_length y m) d a.last)

-- no case of a date applies
pub none_date : (y m d : ℕ) → NoneApplies (date_cases y m d) → AcceptedDate y m d
none_date y m d h =
    let p = between y first_year last_year h.0 in
    let q = between m 1 12 h.1.0 in
    let r = between d 1 (month_length y m) h.1.1.0 in
    record { from = p.0; to = p.1; one = q.0; twelve = q.1; first = r.0; last = r.1 }

pub date_none : (y m d : ℕ) → AcceptedDate y m d → NoneApplies (date_cases y m d)
date_none y m d a = (
  both (le-ltb y first_year a.from) (le-ltb last_year y a.to),
  (both (le-ltb m 1 a.one) (le-ltb 12 m a.twelve), (both (le-ltb d 1 a.first) (le-ltb (month_length y m) d a.last), tt)),
)
  where
    both : {p q : Bool} → p ≡ false → q ≡ false → p || q ≡ false
    both e f = rw (e, f) refl

-- only an accepted date has a day number
day_accepted : (y m d : ℕ) (z : ℤ) → day_of y m d ≡ Ok z → AcceptedDate y m d
unfolding day_of
day_accepted y m d z e = none_date y m d (answered_none Err (date_cases y m d) _ (Ok z) (λ n p. impossible (cc)) e).0

-- the days before the first year, and before the year after the last
years_first : days_of_years (first_year - 1600) ≡ first_index
years_first = years_counted (first_year - 1600)

years_end : days_of_years (suc last_year - 1600) ≡ suc last_index
years_end = years_counted (suc last_year - 1600)

years_from : (y z : ℕ) → 1600 ≤ y → y ≤ z → days_of_years (y - 1600) ≤ days_of_years (z - 1600)
years_from y z h k = by (dec_le z y)
  where
    by : Dec (z ≤ y) → days_of_years (y - 1600) ≤ days_of_years (z - 1600)
    by (yes p) = let e : y ≡ z = omega arith in rw e (omega arith)
    by (no p) = omega (arith, years_apart y z h (omega (arith, p)))

-- the index of an accepted date
index_range : (y m d : ℕ) → AcceptedDate y m d → (first_index ≤ date_index (date y m d)) × (date_index (date y m d) ≤ last_index)
index_range y m d a = (
  omega (arith, index_low (date y m d), years_from first_year y (omega arith) a.from, years_first),
  omega (arith, index_high (date y m d) (valid y m d a), years_apart y (suc last_year) (omega (arith, a.from)) (omega (arith, a.to)), years_end),
)

-- What holds of a date that was accepted by its index i.
pub record DateAt (y m d i : ℕ) : Type 0 where
  pub accepted : AcceptedDate y m d
  pub index : date_index (date y m d) ≡ i
  pub low : first_index ≤ i
  pub high : i ≤ last_index

pub date_at : (y m d i : ℕ) → date_acceptance y m d ≡ Ok i → DateAt y m d i
unfolding date_acceptance
date_at y m d i e =
    let r = answered_none Err (date_cases y m d) _ (Ok i) (λ n p. impossible (cc)) e in
    let g : Ok (date_index (date y m d)) ≡ Ok i = r.1 in
    let f : date_index (date y m d) ≡ i = cc in
    let a : AcceptedDate y m d = none_date y m d r.0 in
    let b = index_range y m d a in
    record { accepted = a; index = f; low = omega (arith, b.0, f); high = omega (arith, b.1, f) }

-- the number of an index in range is in range, and has that index
pub number_pos : (n : ℕ) → first_index ≤ n → day_at_index n ≡ pos (n - index_offset)
unfolding day_at_index
number_pos n h = day_natural n (omega arith)

pub number_inside : (n : ℕ) → first_index ≤ n → n ≤ last_index → outside (day_at_index n) ≡ false
unfolding outside
number_inside n h k = rw (number_pos n h) (simp (le-ltb (n - index_offset) 15020 (omega arith), le-ltb 88433 (n - index_offset) (omega arith)))

pub number_index : (n : ℕ) → first_index ≤ n → day_index (day_at_index n) ≡ n
unfolding day_index
number_index n h = let b : n - index_offset + index_offset ≡ n = omega arith in rw (number_pos n h) b

-- PROMISE. The date of a date's day number is that date.
pub there_and_back : (y m d : ℕ) (z : ℤ) → day_of y m d ≡ Ok z → date_of z ≡ Ok (date y m d)
unfolding date_of
there_and_back y m d z e =
    let a : AcceptedDate y m d = day_accepted y m d z e in
    let r : (first_index ≤ date_index (date y m d)) × (date_index (date y m d) ≤ last_index) = index_range y m d a in
    let f : Ok z ≡ Ok (day_at_index (date_index (date y m d))) = sym e ∙ accepted_day y m d a in
    let g : z ≡ day_at_index (date_index (date y m d)) = cc in
    rw g (simp (number_inside (date_index (date y m d)) r.0 r.1, number_index (date_index (date y m d)) r.0) (ap Ok (after_index (date y m d) (valid y m d a))))

-- a day number with a date is in range
pub date_range : (z : ℤ) (t : Date) → date_of z ≡ Ok t → (outside z ≡ false) × (t ≡ date_after (day_index z))
unfolding date_of
date_range z t e =
    let r = answered_none Err (day_cases z) _ (Ok t) (λ n p. impossible (cc)) e in
    let g : Ok (date_after (day_index z)) ≡ Ok t = r.1 in
    (r.0.0, cc)

-- a date whose index is in range is accepted
pub in_range : (t : Date) → Valid t → first_index ≤ date_index t → date_index t ≤ last_index → AcceptedDate t.year t.month t.day
in_range t v h k = record { from = from (dec_le first_year t.year); to = to (dec_le t.year last_year); one = v.one; twelve = v.twelve; first = v.first; last = v.last }
  where
    from : Dec (first_year ≤ t.year) → first_year ≤ t.year
    from (yes p) = p
    from (no p) = omega (arith, index_high t v, years_apart t.year first_year v.late (omega (arith, p)), years_first)

    to : Dec (t.year ≤ last_year) → t.year ≤ last_year
    to (yes p) = p
    to (no p) = omega (arith, p, index_low t, years_from (suc last_year) t.year (omega arith) (omega (arith, p)), years_end)

-- PROMISE. The day number of a day number's date is that day number.
pub back_and_there : (z : ℤ) (t : Date) → date_of z ≡ Ok t → day_of t.year t.month t.day ≡ Ok z
unfolding day_at_index
back_and_there z t e =
    let r : (outside z ≡ false) × (t ≡ date_after (day_index z)) = date_range z t e in
    let h : HasIndex z (day_index z) = inside_index z r.0 in
    let f : Found (day_index z) (date_after (day_index z)) = after (day_index z) in
    let v : Valid t = subst Valid (sym r.1) f.valid in
    let x : date_index t ≡ day_index z = ap date_index r.1 ∙ f.index in
    let n : day_at_index (date_index t) ≡ z = ap day_at_index x ∙ sym h.is in
    accepted_day t.year t.month t.day (in_range t v (omega (arith, h.low, x)) (omega (arith, h.high, x))) ∙ ap Ok n

-- PROMISE. Every accepted day number has a date.
pub has_date : (z : ℤ) → outside z ≡ false → date_of z ≡ Ok (date_after (day_index z))
unfolding date_of
has_date z o = none_answered Err (day_cases z) _ (o, tt)

next_index : (z : ℤ) → HasIndex z (day_index z) → day_index (z +ℤ pos 1) ≡ suc (day_index z)
unfolding day_index
next_index z h =
    let u : z +ℤ pos index_offset ≡ pos (day_index z) = index_up z (day_index z) h.is in
    let e : (z +ℤ pos 1) +ℤ pos index_offset ≡ pos (day_index z + 1) =
    +ℤ_assoc z (pos 1) (pos index_offset) ∙ (ap (λ (x : ℤ). z +ℤ x) (+ℤ_comm (pos 1) (pos index_offset)) ∙ (sym (+ℤ_assoc z (pos index_offset) (pos 1)) ∙ ap (λ (x : ℤ). x +ℤ pos 1) u)) in
    ap nat_abs e ∙ add-one (day_index z)

-- PROMISE. The date of the next day number is the next date, month and year ends included.
pub next_date : (z : ℤ) (t : Date) → date_of z ≡ Ok t → outside (z +ℤ pos 1) ≡ false → date_of (z +ℤ pos 1) ≡ Ok (next t)
unfolding date_after
next_date z t e o =
    let r : (outside z ≡ false) × (t ≡ date_after (day_index z)) = date_range z t e in
    let s : day_index (z +ℤ pos 1) ≡ suc (day_index z) = next_index z (inside_index z r.0) in
    has_date (z +ℤ pos 1) o ∙ ap Ok (ap date_after s ∙ ap next (sym r.1))
