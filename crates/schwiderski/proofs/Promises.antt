-- What is promised of the angles. What is reduced by two-pi is in its range; the two tests of a day say that it is a number from 1 on and below the
-- number of the year's days plus 1; and the cases of the refusals say which years and days are answered, with the formula. Assumes nothing.
use Rattle.std.proofs.Common.{◌≡◌, ℕ, ◌+◌, ◌-◌, ◌*◌, ◌/◌, ◌<◌, ◌≤◌, Bool, true, false, not, T, leb, ℤ, pos, negsuc, ◌+ℤ◌, ◌-ℤ◌, ◌*ℤ◌, sym, refl, ap, ◌∙◌, subst, true≢false, lt_of_lt_of_le, arith, lit<, ltb→lt, lt→ltb, leb→le, le-ltb, leb-false}
use lib.Ieee.{Float, nan, inf, fin, up, down, round, lt, le, of_int}
use lib.Ieee.Bits.{is_true}
use lib.Ieee.Fits.{and_i, and_l, and_r, down_pos}
use lib.Ieee.Positive.{positive, le→cross, cross→le, first_pos}
use Rattle.instants.proofs.Impossible.{impossible}
use Rattle.instants.proofs.FirstRefusal.{in_each, none_answered}
use Rattle.instants.proofs.Accepted.{between}
use Rattle.calendar.specs.Dates.{leap_year, month_lengths, sum, year_length, days_of_years}
use Rattle.calendar.proofs.Laws.{years_counted}
use Rattle.algebra.proofs.Tests.{by_test}
use Rattle.algebra.proofs.Ring.{end, ◌▸◌, ring, quote}
use Rattle.binary64.specs.Words.{whole, decimal64}
use Rattle.binary64.specs.Claims.{Finite, InRange}
use Rattle.binary64.proofs.Range.{IsPeriod, reduced_in_range}
use Rattle.schwiderski.specs.declared.Angles.{Angles}
use Rattle.schwiderski.specs.Formula.{two_pi, leap_days, day_count, longitudes, sums, reduced_each, angles_of}
use Rattle.schwiderski.specs.Service.{first_year, last_year, in_year, angles_cases, schwiderski_of}
use Rattle.schwiderski.specs.Claims.{Every, InDays}
use Rattle.schwiderski.proofs.Days.{finite_day, year_end}
use Rattle.schwiderski.proofs.Sums.{sums_finite}
use Rattle.std.specs.Prelude.{Result, Ok, Err}
use Rattle.instants.specs.declared.refusal.Refusal.{Refusal}

-- ---- the range
-- two-pi is 884279719003555 / 2^47
two_pi_is : two_pi ≡ fin false 884_279_719_003_555 (negsuc 46)
unfolding two_pi decimal64
two_pi_is = refl

two_pi_is_period : IsPeriod two_pi
unfolding round
two_pi_is_period = subst IsPeriod (sym two_pi_is) (refl, lit< tt, refl)

-- PROMISE. Whatever the formula is given, each of its eleven angles is finite, of the sign +, and below two-pi.
pub formula_in_range : (y : ℕ) (day : Float) → Every (InRange two_pi) (angles_of y day)
unfolding angles_of reduced_each
formula_in_range y day = (
  reduced_in_range two_pi two_pi_is_period _,
  reduced_in_range two_pi two_pi_is_period _,
  reduced_in_range two_pi two_pi_is_period _,
  reduced_in_range two_pi two_pi_is_period _,
  reduced_in_range two_pi two_pi_is_period _,
  reduced_in_range two_pi two_pi_is_period _,
  reduced_in_range two_pi two_pi_is_period _,
  reduced_in_range two_pi two_pi_is_period _,
  reduced_in_range two_pi two_pi_is_period _,
  reduced_in_range two_pi two_pi_is_period _,
  reduced_in_range two_pi two_pi_is_period _,
)

-- ---- the days of a year, leap or not, as fractions
module _ (m : ℕ) (e : ℤ) where
  from_one : T (positive (fin false m e)) → T (le (whole (pos 1)) (fin false m e)) → down e ≤ m * up e
  unfolding of_int round
  from_one p h = let c = le→cross (whole (pos 1)) (fin false m e) tt p h in omega (arith, c)

  one_or_more : down e ≤ m * up e → T (le (whole (pos 1)) (fin false m e))
  unfolding of_int round
  one_or_more h = cross→le (whole (pos 1)) (fin false m e) tt (lt→ltb 0 m (first_pos m (up e) (lt_of_lt_of_le (down_pos e) h))) (omega (arith, h))

fractions : (b : Bool) (x : Float) → T (positive x) → T (le (whole (pos 1)) x) → T (lt x (whole (pos (sum (month_lengths b) + 1)))) → InDays (sum (month_lengths b)) x
unfolding sum month_lengths of_int round
fractions b nan p h k = absurd p
fractions b (inf s) p h k = absurd p
fractions b (fin true m e) p h k = absurd p
fractions true (fin false m e) p h k =
    let l : m * up e * 1 < 367 * down e = unfold lt in ltb→lt (m * up e * 1) (367 * down e) k in
    (refl, from_one m e p h, omega (arith, l))
fractions false (fin false m e) p h k =
    let l : m * up e * 1 < 366 * down e = unfold lt in ltb→lt (m * up e * 1) (366 * down e) k in
    (refl, from_one m e p h, omega (arith, l))

tests : (b : Bool) (x : Float) → InDays (sum (month_lengths b)) x → T (le (whole (pos 1)) x) × T (lt x (whole (pos (sum (month_lengths b) + 1))))
unfolding sum month_lengths of_int round
tests b nan d = absurd d
tests b (inf s) d = absurd d
tests b (fin true m e) d = absurd (true≢false d.0)
tests true (fin false m e) d = (one_or_more m e d.1, unfold lt in lt→ltb (m * up e * 1) (367 * down e) (let l = d.2 in omega (arith, l)))
tests false (fin false m e) d = (one_or_more m e d.1, unfold lt in lt→ltb (m * up e * 1) (366 * down e) (let l = d.2 in omega (arith, l)))

in_days : (y : ℕ) (x : Float) → T (in_year y x) → InDays (year_length y) x
unfolding in_year year_length
in_days y x t =
    let h = and_l (le (whole (pos 1)) x) (lt x (whole (pos (year_length y + 1)))) t in
    let k = and_r (le (whole (pos 1)) x) (lt x (whole (pos (year_length y + 1)))) t in
    fractions (leap_year y) x (finite_day x h (year_end y x k)) h k

in_year_lem : (y : ℕ) (x : Float) → InDays (year_length y) x → T (in_year y x)
unfolding in_year year_length
in_year_lem y x d = let t = tests (leap_year y) x d in and_i (le (whole (pos 1)) x) (lt x (whole (pos (year_length y + 1)))) t.0 t.1

-- ---- which years and days are answered, and by what
-- PROMISE. An answer that is not a refusal is of a year from 1974 to 2100 and of a day of it, and is the formula with the year minus 1900.
pub answered_accepted : (y : ℕ) (x : Float) (a : Angles) → schwiderski_of y x ≡ Ok a → (1974 ≤ y) × (y ≤ 2100) × InDays (year_length y) x × (a ≡ angles_of (y - 1900) x)
unfolding schwiderski_of
answered_accepted y x a =
    in_each Err (λ (z : (Result Angles Refusal)). z ≡ Ok a → (1974 ≤ y) × (y ≤ 2100) × InDays (year_length y) x × (a ≡ angles_of (y - 1900) x)) (angles_cases y x) (Ok (angles_of (y - 1900) x))
    (λ n e. impossible (cc)) (λ n e. let b = between y first_year last_year n.0 in (b.0, b.1, in_days y x (is_so (in_year y x) n.1.0), (cc)))
  where
    is_so : (b : Bool) → not b ≡ false → T b
    is_so true e = tt
    is_so false e = impossible (cc)

-- PROMISE. Every year from 1974 to 2100 and day of it is answered, by the formula with the year minus 1900.
pub accepted_answered : (y : ℕ) (x : Float) → 1974 ≤ y → y ≤ 2100 → InDays (year_length y) x → schwiderski_of y x ≡ Ok (angles_of (y - 1900) x)
unfolding schwiderski_of
accepted_answered y x h k d = none_answered Err (angles_cases y x) _ (rw (le-ltb y 1974 h, le-ltb 2100 y k) refl, (rw (is_true (in_year y x) (in_year_lem y x d)) refl, tt))

-- ---- what holds of every answer that is no refusal
module _ (y : ℕ) (x : Float) (a : Angles) (e : schwiderski_of y x ≡ Ok a) where
  -- PROMISE. Each of the eleven angles is finite, of the sign +, and below two-pi.
  pub angles_in_range : Every (InRange two_pi) a
  angles_in_range = subst (Every (InRange two_pi)) (sym (answered_accepted y x a e).3) (formula_in_range (y - 1900) x)

  -- PROMISE. None of the eleven sums is a NaN or an infinity before it is reduced.
  pub nothing_lost : Every Finite (sums (longitudes (y - 1900) x))
  unfolding year_length
  nothing_lost =
      let r = answered_accepted y x a e in
      let t = tests (leap_year y) x r.2 in
      sums_finite (y - 1900) x (let h = r.1 in omega (arith, h)) t.0 (year_end y x t.1)

-- ---- the count of days

spread : (d z q c : ℤ) → d +ℤ pos 365 *ℤ (z -ℤ pos 75) +ℤ q ≡ (d +ℤ (pos 365 *ℤ z +ℤ q +ℤ c)) -ℤ pos 27375 -ℤ c
spread d z q c = ring (d ▸ z ▸ q ▸ c ▸ end) (search quote depth 13) tt

gathered : (d n c : ℤ) → (d +ℤ (n +ℤ pos 27375)) -ℤ pos 27375 -ℤ c ≡ (n +ℤ d) -ℤ c
gathered d n c = ring (d ▸ n ▸ c ▸ end) (search quote depth 13) tt

-- from 1974 to 2100 the hundredth years since 1600 are three more than the four-hundredth ones among them
hundredths : (k : ℕ) → 374 ≤ k → k ≤ 500 → (k + 99) / 100 ≡ (k + 399) / 400 + 3
hundredths k h i = by_test (leb k 400) (λ t. early (leb→le k 400 t)) (λ t. late (leb-false k 400 (is_false (leb k 400) t)))
  where
    early : k ≤ 400 → (k + 99) / 100 ≡ (k + 399) / 400 + 3
    early l = let a : (k + 99) / 100 ≡ 4 = omega arith in let b : (k + 399) / 400 ≡ 1 = omega arith in omega (arith, a, b)

    late : 400 < k → (k + 99) / 100 ≡ (k + 399) / 400 + 3
    late l = let a : (k + 99) / 100 ≡ 5 = omega arith in let b : (k + 399) / 400 ≡ 2 = omega arith in omega (arith, a, b)

    is_false : (b : Bool) → T (not b) → b ≡ false
    is_false true t = absurd t
    is_false false t = refl

fourths : (k : ℕ) → 374 ≤ k → (k + 3) / 4 ≡ (k - 300 - 73) / 4 + 94
fourths k h = omega arith

agree : (k z n c q f a b : ℕ) → k ≡ z + 300 → n ≡ 365 * k + f + a - b → f ≡ q + 94 → b ≡ a + 3 → c ≡ 136_966 → 365 * z + q + c ≡ n + 27375
agree k z n c q f a b i l g h m = omega (arith, i, l, g, h, m)

-- PROMISE. In the years that are answered the count of days is the calendar's, from 1974-12-31 on.
pub days_counted : (y d : ℕ) → 1974 ≤ y → y ≤ 2100 → day_count (y - 1900) d ≡ pos (days_of_years (y - 1600) + d) -ℤ pos (days_of_years 375)
unfolding day_count
days_counted y d h k =
    let z = y - 1900 in
    let n = days_of_years (y - 1600) in
    let c = days_of_years 375 in
    let q = (z - 73) / 4 in
    let k4 : (y - 1600 + 3) / 4 ≡ q + 94 = subst (λ (w : ℕ). (y - 1600 + 3) / 4 ≡ w / 4 + 94) (omega arith) (fourths (y - 1600) (omega arith)) in
    let e : 365 * z + q + c ≡ n + 27375 =
    agree (y - 1600) z n c q _ _ _ (omega arith) (years_counted (y - 1600)) k4 (hundredths (y - 1600) (omega arith) (omega arith)) (years_counted 375) in
    let leap-days : leap_days z ≡ pos q = unfold leap_days in rw (le-ltb z 73 (omega arith)) refl in
    ap (λ (w : ℤ). pos d +ℤ pos 365 *ℤ (pos z -ℤ pos 75) +ℤ w) leap-days ∙ spread (pos d) (pos z) (pos q) (pos c)
    ∙ ap (λ (w : ℕ). (pos d +ℤ pos w) -ℤ pos 27375 -ℤ pos c) e ∙ gathered (pos d) (pos n) (pos c)
