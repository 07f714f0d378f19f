-- Demand 2, of service (j): the eleven Schwiderski angles. Which years and days are answered, and by what; then what holds of every answer and of the
-- formula.
use Rattle.std.specs.Prelude.{ℕ, ◌+◌, ◌-◌, ◌≤◌, ◌≡◌, false, true, T, pos, negsuc, neg_ℤ, ◌-ℤ◌, Float, Ok}
use Rattle.std.specs.Float.{nan, inf, fin, binary64}
use Rattle.std.specs.Float.Ieee.{rem}
use Rattle.calendar.specs.Dates.{year_length, days_of_years}
use Rattle.binary64.specs.Words.{zero64, plus}
use Rattle.binary64.specs.Claims.{Finite, InRange}
use Rattle.schwiderski.specs.declared.Angles.{Angles}
use Rattle.schwiderski.specs.Formula.{two_pi, leap_days, day_count, longitudes, sums, angles_of}
use Rattle.schwiderski.specs.Service.{schwiderski_of, angles_refusal_of}
use Rattle.schwiderski.specs.Claims.{Every, InDays, as_published}

pub record AnglesExactly : Type 0 where
  -- a day of a year from 1974 to 2100 is answered by the formula with the year minus 1900, and nothing else is answered
  pub accepted_angles : (y : ℕ) (x : Float) → 1974 ≤ y → y ≤ 2100 → InDays (year_length y) x → schwiderski_of y x ≡ Ok (angles_of (y - 1900) x)
  pub answered_angles : (y : ℕ) (x : Float) (a : Angles) → schwiderski_of y x ≡ Ok a → (1974 ≤ y) × (y ≤ 2100) × InDays (year_length y) x × (a ≡ angles_of (y - 1900) x)
  -- each of the eleven is a finite number of the sign +, below two-pi, and none was a NaN or an infinity before it was reduced
  pub angles_in_range : (y : ℕ) (x : Float) (a : Angles) → schwiderski_of y x ≡ Ok a → Every (InRange two_pi) a
  pub angle_sums_finite : (y : ℕ) (x : Float) (a : Angles) → schwiderski_of y x ≡ Ok a → Every Finite (sums (longitudes (y - 1900) x))
  -- the formula with 8 and the day 311.5 gives the eleven published numbers, within 10^-7; whole quotients are cut toward zero, so that it has -16 leap
  -- days there and counts -24160 days; in the years that are answered its count is the calendar's, from 1974-12-31 on
  pub published_angles : T (as_published (angles_of 8 (plus 1 311_5)))
  pub published_count : (leap_days 8 ≡ neg_ℤ (pos 16)) × (day_count 8 311 ≡ neg_ℤ (pos 24_160))
  pub days_counted : (y d : ℕ) → 1974 ≤ y → y ≤ 2100 → day_count (y - 1900) d ≡ pos (days_of_years (y - 1600) + d) -ℤ pos (days_of_years 375)
  -- there are such: days near both ends that are answered and that are refused; a NaN and both infinities, which are refused
  pub first_days : (angles_refusal_of (schwiderski_of 1974 (plus 0 1)) ≡ 0) × (angles_refusal_of (schwiderski_of 1973 (plus 0 1)) ≡ 1) × (angles_refusal_of (schwiderski_of 1974 (plus 3 0_999)) ≡ 26)
  pub last_days : (angles_refusal_of (schwiderski_of 2100 (plus 3 365_999)) ≡ 0) × (angles_refusal_of (schwiderski_of 2100 (plus 0 366)) ≡ 26)
      × (angles_refusal_of (schwiderski_of 2096 (plus 3 366_999)) ≡ 0) × (angles_refusal_of (schwiderski_of 2096 (plus 0 367)) ≡ 26) × (angles_refusal_of (schwiderski_of 2101 (plus 0 1)) ≡ 1)
  pub no_days : (angles_refusal_of (schwiderski_of 2000 nan) ≡ 26) × (angles_refusal_of (schwiderski_of 2000 (inf false)) ≡ 26) × (angles_refusal_of (schwiderski_of 2000 (inf true)) ≡ 26)
      × (angles_refusal_of (schwiderski_of 1973 nan) ≡ 1)
  -- and an angle whose remainder is minus zero, which becomes +0: M2 on the day 5119583857118357 / 2^44 of 1982
  pub a_minus_zero : (rem binary64 (sums (longitudes 82 (fin false 5_119_583_857_118_357 (negsuc 43)))).m2 two_pi ≡ fin true 0 (pos 0))
      × ((angles_of 82 (fin false 5_119_583_857_118_357 (negsuc 43))).m2 ≡ zero64)
