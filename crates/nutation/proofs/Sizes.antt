-- How large the numbers are that the code computes, so that none passes 64 bits, and its quotients, which are taken in two steps.
-- A product is bounded by its factors' bounds, a sum by its terms'; a quotient by the microseconds of p days is taken by those of one day, then by p.
-- Assumes nothing.
use mathlib.Core.Path.{◌≡◌, refl, sym, ◌∙◌, ap}
use Prim.Native.Nat.{ℕ, ◌+◌, ◌*◌, ◌-◌, ◌/◌, ◌%◌, ◌^◌, ◌≤◌, ◌<◌}
use native.Mathlib.Nat as N
use native.Mathlib.Nat.{le_trans, le_of_eq, lt_of_le_of_lt}
use native.Mathlib.Omega.{arith}
use lib.Dec.{lit≤}
use lib.IntN.{ℤ, pos, negsuc, neg_ℤ, ◌+ℤ◌, ◌-ℤ◌, ◌*ℤ◌, nat_abs}
use lib.Signed.{shr_z}
use mir.Syntax.{w64}
use mir.Val.{SFits}
use Rattle.instants.specs.Limits.{day_micros}
use Rattle.algebra.proofs.Order.{abs_neg}
use Rattle.algebra.proofs.Near.{abs_sum, abs_prod}
use Rattle.algebra.proofs.Fits.{small_fits, zero_less}
use Rattle.arguments.specs.Ours.{high}
use Rattle.instants.specs.Moments.{latest}
use Rattle.rows.specs.declared.Row.{Row}
use Rattle.rows.specs.declared.Place.{Place}
use Rattle.rows.specs.declared.Place.TheVariants.{End, Between}
use Rattle.rows.specs.Table.{largest}
use Rattle.rows.specs.Places.{row_moment, span}
use Rattle.nutation.specs.Ours.{start_angle, angle_rate, our_angle, factor, mixed, amplitude, offset}
use Rattle.rows.specs.Inner.{AcceptedRow, Inside, Placed}
use Rattle.nutation.specs.Inner.{MixBounds, widest, OffsetBounds}
use Rattle.rows.proofs.Places.{days_apart}
use Rattle.rows.proofs.Interpolated.{on_the_way}

-- ---- between two rows

module _ (a b : Row) (x : ℕ) (h : Inside a b x) where
  pub inside_span : span a b ≡ (b.day - a.day) * day_micros
  unfolding span
  inside_span = days_apart a b

  -- the same quotient as the code has it
  pub factor_is : factor a b x ≡ (x - row_moment a) * 2 ^ 27 / ((b.day - a.day) * day_micros)
  unfolding factor
  factor_is = rw inside_span

  pub after_less : x - row_moment a < (b.day - a.day) * day_micros
  after_less = N.lt_of_lt_of_le (go (row_moment a) (row_moment b) h.low h.high) (N.le_of_eq (days_apart a b))
    where
      go : (a b : ℕ) → a ≤ x → x < b → x - a < b - a
      go a b h k = omega arith

-- whole days and the rest
pub factor_steps : (n p : ℕ) → (n / day_micros * 2 ^ 27 + n % day_micros * 2 ^ 27 / day_micros) / p ≡ n * 2 ^ 27 / (p * day_micros)
factor_steps n p = ap (λ (k : ℕ). k / p) whole ∙ N.div-div-eq-div-mul (n * 2 ^ 27) day_micros p ∙ ap (λ (k : ℕ). n * 2 ^ 27 / k) (N.mul_comm day_micros p)
  where
    whole : n / day_micros * 2 ^ 27 + n % day_micros * 2 ^ 27 / day_micros ≡ n * 2 ^ 27 / day_micros
    whole = omega arith

pub factor_le : (n w : ℕ) → n < w → n * 2 ^ 27 / w ≤ 2 ^ 27
factor_le n w h = N.div-le_of_le-mul w (le_trans (N.mul-le-mul_right (2 ^ 27) (N.le_of_lt h)) (N.le_refl (w * 2 ^ 27)))

-- what is between two numbers is no larger than they are
pub between_small : (W off k : ℕ) (c d : ℤ) → off ≤ W → nat_abs c ≤ k → nat_abs d ≤ k → nat_abs (c *ℤ pos W +ℤ (d -ℤ c) *ℤ pos off) ≤ k * W
between_small W off k c d h hc hd =
    le_trans (abs_sum (c *ℤ pos (W - off)) (d *ℤ pos off) (on_the_way c d W off h)
    (abs_prod c (pos (W - off)) hc (N.le_refl (W - off))) (abs_prod d (pos off) hd (N.le_refl off))) (le_of_eq (sym (N.mul-add k (W - off) off) ∙ ap (λ (n : ℕ). k * n) (N.sub-add_cancel h)))

pub minus_small : (c d : ℤ) → nat_abs c ≤ largest → nat_abs d ≤ largest → nat_abs (d -ℤ c) ≤ 2 * largest
minus_small c d hc hd = le_trans (abs_sum d (neg_ℤ c) refl hd (le_trans (le_of_eq (abs_neg c)) hc)) (lit≤ tt)

-- ---- from one amplitude to another

module _ {c d : ℤ} {l : ℕ} (h : MixBounds c d l) where
  pub mixed_first : SFits w64 (c *ℤ pos (2 ^ 27))
  mixed_first = small_fits (c *ℤ pos (2 ^ 27)) (lt_of_le_of_lt (abs_prod c (pos (2 ^ 27)) h.from (N.le_refl (2 ^ 27))) (lit≤ tt))

  pub mixed_apart : SFits w64 (d -ℤ c)
  mixed_apart = small_fits (d -ℤ c) (lt_of_le_of_lt (minus_small c d h.from h.to) (lit≤ tt))

  pub mixed_second : SFits w64 ((d -ℤ c) *ℤ pos l)
  mixed_second = small_fits ((d -ℤ c) *ℤ pos l) (lt_of_le_of_lt (abs_prod (d -ℤ c) (pos l) (minus_small c d h.from h.to) h.part) (lit≤ tt))

  sum_small : nat_abs (c *ℤ pos (2 ^ 27) +ℤ (d -ℤ c) *ℤ pos l) ≤ largest * 2 ^ 27
  sum_small = between_small (2 ^ 27) l largest c d h.part h.from h.to

  pub mixed_sum : SFits w64 (c *ℤ pos (2 ^ 27) +ℤ (d -ℤ c) *ℤ pos l)
  mixed_sum = small_fits (c *ℤ pos (2 ^ 27) +ℤ (d -ℤ c) *ℤ pos l) (lt_of_le_of_lt sum_small (lit≤ tt))

  mixed_small : nat_abs (mixed c d l) ≤ widest
  unfolding mixed
  mixed_small = go (c *ℤ pos (2 ^ 27) +ℤ (d -ℤ c) *ℤ pos l) sum_small
    where
      go : (z : ℤ) → nat_abs z ≤ largest * 2 ^ 27 → nat_abs (shr_z z (2 ^ 17)) ≤ widest
      go (pos n) k = omega arith
      go (negsuc n) k = omega arith

  pub mixed_fits : SFits w64 (mixed c d l)
  mixed_fits = small_fits (mixed c d l) (lt_of_le_of_lt mixed_small (lit≤ tt))

-- an amplitude of a row, with ten binary places
times_small : (c : ℤ) → nat_abs c ≤ largest → nat_abs (c *ℤ pos (2 ^ 10)) ≤ widest
times_small c h = abs_prod c (pos (2 ^ 10)) h (N.le_refl (2 ^ 10))

pub times_fits : (c : ℤ) → nat_abs c ≤ largest → SFits w64 (c *ℤ pos (2 ^ 10))
times_fits c h = small_fits (c *ℤ pos (2 ^ 10)) (lt_of_le_of_lt (times_small c h) (lit≤ tt))

-- at a place of an accepted table
pub amplitude_small : (f : Row → ℤ) → ((r : Row) → AcceptedRow r → nat_abs (f r) ≤ largest) → (p : Place) (x : ℕ) → Placed p x → nat_abs (amplitude f p x) ≤ widest
unfolding amplitude
amplitude_small f k (End r) x h = times_small (f r) (k r h)
amplitude_small f k (Between a b) x h = mixed_small (record { from = k a h.0; to = k b h.1; part = factor_small })
  where
    factor_small : factor a b x ≤ 2 ^ 27
    factor_small = le_trans (le_of_eq (factor_is a b x h.2)) (factor_le (x - row_moment a) ((b.day - a.day) * day_micros) (after_less a b x h.2))

-- zero less an amplitude
pub minus_fits : (z : ℤ) → nat_abs z ≤ widest → SFits w64 (pos 0 -ℤ z)
minus_fits z h = small_fits (pos 0 -ℤ z) (lt_of_le_of_lt (le_trans (le_of_eq (ap nat_abs (zero_less z) ∙ abs_neg z)) h) (lit≤ tt))

-- ---- the offsets

module _ {c s cos sin : ℤ} (h : OffsetBounds c s cos sin) where
  one : (a u : ℤ) → nat_abs a ≤ widest → nat_abs u < 2 ^ 32 → nat_abs (a *ℤ u) ≤ widest * 2 ^ 32
  one a u l k = abs_prod a u l (N.le_of_lt k)

  pub offset_first : SFits w64 (c *ℤ cos)
  offset_first = small_fits (c *ℤ cos) (lt_of_le_of_lt (one c cos h.c_small h.cos_small) (lit≤ tt))

  pub offset_second : SFits w64 (s *ℤ sin)
  offset_second = small_fits (s *ℤ sin) (lt_of_le_of_lt (one s sin h.s_small h.sin_small) (lit≤ tt))

  difference : nat_abs (c *ℤ cos -ℤ s *ℤ sin) ≤ widest * 2 ^ 32 + widest * 2 ^ 32
  difference = abs_sum (c *ℤ cos) (neg_ℤ (s *ℤ sin)) refl (one c cos h.c_small h.cos_small) (le_trans (le_of_eq (abs_neg (s *ℤ sin))) (one s sin h.s_small h.sin_small))

  pub offset_difference : SFits w64 (c *ℤ cos -ℤ s *ℤ sin)
  offset_difference = small_fits (c *ℤ cos -ℤ s *ℤ sin) (lt_of_le_of_lt difference (lit≤ tt))

  ten : nat_abs (pos 10 *ℤ (c *ℤ cos -ℤ s *ℤ sin)) ≤ 10 * (widest * 2 ^ 32 + widest * 2 ^ 32)
  ten = abs_prod (pos 10) (c *ℤ cos -ℤ s *ℤ sin) (N.le_refl 10) difference

  pub offset_ten : SFits w64 (pos 10 *ℤ (c *ℤ cos -ℤ s *ℤ sin))
  offset_ten = small_fits (pos 10 *ℤ (c *ℤ cos -ℤ s *ℤ sin)) (lt_of_le_of_lt ten (lit≤ tt))

  sum : nat_abs (pos 10 *ℤ (c *ℤ cos -ℤ s *ℤ sin) +ℤ pos (2 ^ 40)) ≤ 10 * (widest * 2 ^ 32 + widest * 2 ^ 32) + 2 ^ 40
  sum = abs_sum (pos 10 *ℤ (c *ℤ cos -ℤ s *ℤ sin)) (pos (2 ^ 40)) refl ten (N.le_refl (2 ^ 40))

  pub offset_sum : SFits w64 (pos 10 *ℤ (c *ℤ cos -ℤ s *ℤ sin) +ℤ pos (2 ^ 40))
  offset_sum = small_fits (pos 10 *ℤ (c *ℤ cos -ℤ s *ℤ sin) +ℤ pos (2 ^ 40)) (lt_of_le_of_lt sum (lit≤ tt))

  pub offset_fits : SFits w64 (offset c s cos sin)
  unfolding offset
  offset_fits = small_fits (offset c s cos sin) (go (pos 10 *ℤ (c *ℤ cos -ℤ s *ℤ sin) +ℤ pos (2 ^ 40)) (lt_of_le_of_lt sum (lit≤ tt)))
    where
      go : (z : ℤ) → nat_abs z < 2 ^ 63 → nat_abs (shr_z z (2 ^ 41)) < 2 ^ 63
      go (pos n) k = omega arith
      go (negsuc n) k = omega arith

-- ---- the angle

-- what is taken away is at most the start
pub gone_le : (x : ℕ) → x ≤ latest → high x angle_rate ≤ start_angle
gone_le x h = bound (N.mul-le-mul_right angle_rate h)
  where
    bound : x * angle_rate ≤ latest * angle_rate → x * angle_rate / 2 ^ 64 ≤ start_angle
    bound k = omega arith

pub angle_less : (x : ℕ) → our_angle x < 2 ^ 41
unfolding our_angle
angle_less x = N.mod-lt (start_angle - high x angle_rate) (lit≤ tt)
