-- A day of the year from 1 on and below 367 is finite and above 0, its whole part is at most 366, and the count of days stays small: so the machine
-- holds each whole number, and binary64 does. Assumes nothing.
use Rattle.std.proofs.Common.{ℕ, suc, ◌+◌, ◌-◌, ◌*◌, ◌/◌, ◌^◌, ◌<◌, ◌≤◌, Bool, true, false, cond, ◌||◌, T, ltb, leb, pos, negsuc, ◌+ℤ◌, ◌-ℤ◌, ◌*ℤ◌, nat_abs, refl, le_trans, lt_of_le_of_lt, div-lt_iff_lt-mul, arith, lit<, lit≤, ltb→lt, lt→ltb, leb→le, w64, to_z}
use native.Mathlib.Nat.{min-le_left}
use lib.Ieee.{Float, nan, inf, fin, up, down, lt, le, eq, of_int, round, to_unsigned}
use lib.Ieee.Fits.{down_pos}
use lib.Ieee.Positive.{positive, between}
use mir.Facts.{to_z_pos}
use Rattle.algebra.proofs.Bits.{InBits}
use Rattle.algebra.proofs.Near.{abs_sum, abs_prod}
use Rattle.calendar.specs.Dates.{leap_year, month_lengths, sum, year_length}
use Rattle.calendar.proofs.Below.{all_below, below}
use Rattle.binary64.specs.Words.{whole}
use Rattle.binary64.proofs.Bounded.{Bound}
use Rattle.schwiderski.specs.Formula.{whole_day, leap_days, day_count}

-- ---- the day of the year
or_left : (a b : Bool) → T a → T (a || b)
or_left true b h = tt
or_left false b h = elim h [ ]

pub finite_day : (x : Float) → T (le (whole (pos 1)) x) → T (lt x (whole (pos 367))) → T (positive x)
unfolding of_int round
finite_day x h k = between (whole (pos 1)) x (whole (pos 367)) tt tt h (unfold le in or_left (lt x (whole (pos 367))) (eq x (whole (pos 367))) k)

-- what the cut to a whole number asks, and what it gives
pub record Day (x : Float) : Type 0 where
  pub from : T (lt (fin true 1 (pos 0)) x)
  pub below : T (lt x (fin false 1 (pos 64)))
  pub most : whole_day x ≤ 366

day_of_lem : (x : Float) → T (positive x) → T (lt x (whole (pos 367))) → Day x
unfolding lt of_int round whole_day to_unsigned
day_of_lem nan p h = absurd p
day_of_lem (inf s) p h = absurd p
day_of_lem (fin true m e) p h = absurd p
day_of_lem (fin false m e) p h =
    let l : m * up e * 1 < 367 * down e = ltb→lt (m * up e * 1) (367 * down e) h in
    let d : 0 < down e = down_pos e in
    let q : m * up e / down e < 367 = (div-lt_iff_lt-mul d).1 (omega (arith, l)) in
    record {
      from = lt→ltb 0 (1 * down e + m * up e * 1) (omega (arith, d));
      below = lt→ltb (m * up e * 1) (2 ^ 64 * down e) (omega (arith, l, d));
      most = le_trans (min-le_left (m * up e / down e) (2 ^ 64 - 1)) (omega (arith, q));
    }

pub day : (x : Float) → T (le (whole (pos 1)) x) → T (lt x (whole (pos 367))) → Day x
day x h k = day_of_lem x (finite_day x h k) k

bound_of : (x : Float) → T (positive x) → T (lt x (whole (pos 367))) → Bound 367 x
unfolding lt of_int round
bound_of nan p h = absurd p
bound_of (inf s) p h = absurd p
bound_of (fin true m e) p h = absurd p
bound_of (fin false m e) p h = record { most = let l = ltb→lt (m * up e * 1) (367 * down e) h in omega (arith, l) }

pub day_bound : (x : Float) → T (le (whole (pos 1)) x) → T (lt x (whole (pos 367))) → Bound 367 x
day_bound x h k = bound_of x (finite_day x h k) k

-- a day within any year is below 367
later : (x : Float) → T (lt x (whole (pos 366))) → T (lt x (whole (pos 367)))
unfolding lt of_int round
later nan h = absurd h
later (inf true) h = tt
later (inf false) h = absurd h
later (fin true m e) h = let l = ltb→lt 0 (m * up e * 1 + 366 * down e) h in lt→ltb 0 (m * up e * 1 + 367 * down e) (omega (arith, l))
later (fin false m e) h = let l = ltb→lt (m * up e * 1) (366 * down e) h in lt→ltb (m * up e * 1) (367 * down e) (omega (arith, l))

pub year_end : (y : ℕ) (x : Float) → T (lt x (whole (pos (year_length y + 1)))) → T (lt x (whole (pos 367)))
unfolding year_length sum month_lengths
year_end y x = go (leap_year y)
  where
    go : (b : Bool) → T (lt x (whole (pos (sum (month_lengths b) + 1)))) → T (lt x (whole (pos 367)))
    go true h = h
    go false h = later x h

-- ---- the count of days

-- a number that comes in
pub came_in : (n b : ℕ) → n ≤ b → b < 2 ^ 63 → InBits (to_z w64 n) (pos n) b
came_in n b h k = record { is = to_z_pos w64 (lt_of_le_of_lt h k); most = h; room = k }

-- less a constant
pub less_size : (y k b : ℕ) → y ≤ b → k < b → nat_abs (pos y -ℤ pos (suc k)) ≤ b
less_size y k b h i = by (ltb y (suc k))
  where
    by : (c : Bool) → nat_abs (cond c (negsuc (suc k - suc y)) (pos (y - suc k))) ≤ b
    by true = omega arith
    by false = omega arith

-- the leap days, computed for every year of the formula
few : ℕ → Bool
unfolding leap_days
few y = leb (nat_abs (leap_days y)) 50

all_few : T (all_below few 201)
unfolding few leap_days
all_few = tt

pub leap_days_size : (y : ℕ) → y ≤ 200 → nat_abs (leap_days y) ≤ 50
unfolding few
leap_days_size y h = leb→le (nat_abs (leap_days y)) 50 (below few 201 all_few y (omega (arith, h)))

-- at most 73,416 in size
pub count_size : (y d : ℕ) → y ≤ 200 → d ≤ 366 → nat_abs (day_count y d) ≤ 366 + 365 * 200 + 50
unfolding day_count
count_size y d h k =
    let years = pos 365 *ℤ (pos y -ℤ pos 75) in
    abs_sum (pos d +ℤ years) (leap_days y) refl
    (abs_sum (pos d) years refl k (abs_prod (pos 365) (pos y -ℤ pos 75) {a = 365} (lit≤ tt) (less_size y 74 200 h (lit< tt))))
    (leap_days_size y h)
