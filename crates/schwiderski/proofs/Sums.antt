-- How large the numbers are at a day of the years 1900 to 2100, so that none is an infinity or a NaN: the seconds are at most 63,331,200 by the sizes
-- alone, the centuries at most 5, the three longitudes at most 180,310, 2,406,761 and 20,835, and a sum of their products with factors up to 3 at most
-- 71 million. Each bound follows from those before by Bounded's laws. Assumes nothing.
use Rattle.std.proofs.Common.{ℕ, ◌≤◌, T, ℤ, pos, nat_abs, refl, lit<}
use lib.Ieee.{Float, lt, le}
use Rattle.binary64.specs.Words.{whole, decimal64}
use Rattle.binary64.specs.Claims.{Finite}
use Rattle.binary64.proofs.Bounded.{Bound, bound_finite, known, number, wide, negated, added, subtracted, multiplied, divided}
use Rattle.schwiderski.specs.declared.Longitudes.{Longitudes}
use Rattle.schwiderski.specs.Formula.{two_pi, degree, whole_day, seconds, day_count, centuries, sun, moon, perigee, longitudes, angle_sum, sums}
use Rattle.schwiderski.specs.Claims.{Every}
use Rattle.schwiderski.proofs.Days.{Day, day, day_bound, count_size}

-- ---- the seconds and the centuries
seconds_bound : (x : Float) → whole_day x ≤ 366 → Bound 367 x → Bound 63_331_200 (seconds x)
unfolding seconds decimal64
seconds_bound x h b = multiplied tt (subtracted tt b (number 366 (pos (whole_day x)) tt h)) (known {B = 86_400} tt)

centuries_bound : (n : ℤ) → nat_abs n ≤ 73_416 → Bound 5 (centuries n)
unfolding centuries decimal64
centuries_bound n h = divided 36525 0 tt refl (lit< tt) (wide tt (added tt (known {B = 27_393} tt) (multiplied tt (known {B = 2} tt) (number 73_416 n tt h))))

-- ---- the longitudes
module _ {t : Float} (h : Bound 5 t) where
  sun_bound : Bound 180_310 (sun t)
  unfolding sun degree decimal64
  sun_bound = multiplied tt (added tt (known {B = 280} tt) (multiplied tt (added tt (known {B = 36_001} tt) (multiplied tt (known {B = 1} tt) h)) h)) (known {B = 1} tt)

  moon_bound : Bound 2_406_761 (moon t)
  unfolding moon degree decimal64
  moon_bound =
      multiplied tt (added tt (multiplied tt (added tt (multiplied tt (subtracted tt (multiplied tt (known {B = 1} tt) h) (known {B = 1} tt)) h) (known {B = 481_268} tt)) h) (known {B = 271} tt))
      (known {B = 1} tt)

  perigee_bound : Bound 20_835 (perigee t)
  unfolding perigee degree decimal64
  perigee_bound =
      multiplied tt (added tt (multiplied tt (added tt (multiplied tt (subtracted tt (negated (multiplied tt (known {B = 1} tt) h)) (known {B = 1} tt)) h) (known {B = 4_070} tt)) h) (known {B = 335} tt))
      (known {B = 1} tt)

record Bounds (l : Longitudes) : Type 0 where
  seconds : Bound 63_331_200 l.seconds
  sun : Bound 180_310 l.sun
  moon : Bound 2_406_761 l.moon
  perigee : Bound 20_835 l.perigee

bounds_at : (y : ℕ) (x : Float) → y ≤ 200 → T (le (whole (pos 1)) x) → T (lt x (whole (pos 367))) → Bounds (longitudes y x)
unfolding longitudes
bounds_at y x k h i =
    let d : Day x = day x h i in
    let c : Bound 5 (centuries (day_count y (whole_day x))) = centuries_bound _ (count_size y (whole_day x) k d.most) in
    record { seconds = seconds_bound x d.most (day_bound x h i); sun = sun_bound c; moon = moon_bound c; perigee = perigee_bound c }

-- ---- the sums
sum_finite : {l : Longitudes} {speed h s p turns : Float} → Bounds l → Bound 1 speed → Bound 2 h → Bound 3 s → Bound 1 p → Bound 1 turns → Finite (angle_sum l speed h s p turns)
unfolding angle_sum two_pi decimal64
sum_finite b v h s p q =
    bound_finite (added tt (added tt (added tt (added tt (multiplied tt v b.seconds) (multiplied tt h b.sun)) (multiplied tt s b.moon)) (multiplied tt p b.perigee)) (multiplied tt q (known {B = 7} tt)))

-- PROMISE. For the years 1900 to 2100 and days from 1 on and below 367 each of the eleven sums is finite, so what is reduced is a number.
pub sums_finite : (y : ℕ) (x : Float) → y ≤ 200 → T (le (whole (pos 1)) x) → T (lt x (whole (pos 367))) → Every Finite (sums (longitudes y x))
unfolding sums decimal64
sums_finite y x k h i =
    let b : Bounds (longitudes y x) = bounds_at y x k h i in (
      sum_finite b (known tt) (known tt) (known tt) (known tt) (known tt),
      sum_finite b (known tt) (known tt) (known tt) (known tt) (known tt),
      sum_finite b (known tt) (known tt) (known tt) (known tt) (known tt),
      sum_finite b (known tt) (known tt) (known tt) (known tt) (known tt),
      sum_finite b (known tt) (known tt) (known tt) (known tt) (known tt),
      sum_finite b (known tt) (known tt) (known tt) (known tt) (known tt),
      sum_finite b (known tt) (known tt) (known tt) (known tt) (known tt),
      sum_finite b (known tt) (known tt) (known tt) (known tt) (known tt),
      sum_finite b (known tt) (known tt) (known tt) (known tt) (known tt),
      sum_finite b (known tt) (known tt) (known tt) (known tt) (known tt),
      sum_finite b (known tt) (known tt) (known tt) (known tt) (known tt),
    )
