-- THE DISTANCE: our offsets against the exact ones, with any accepted table, at every moment of the days covered.
-- An offset is ten times a difference of two products, amplitude times sine or cosine. In each product the amplitude's error (3 units of 2^-10, proved in
-- Interpolation) counts times a sine of at most 2^32, and the sine's error (its own and that of the angle, 2 units of 2^-41 turn) times an amplitude of at
-- most 1000 microarcseconds. Both products and the rounding, half a nanoarcsecond, come to at most 2.
-- Assumes nothing.
use mathlib.Core.Path.{◌≡◌, refl, ◌∙◌, ap}
use mathlib.Core.List.{List}
use Prim.Native.Nat.{ℕ, ◌+◌, ◌*◌, ◌-◌, ◌/◌, ◌^◌, ◌≤◌, ◌<◌}
use native.Mathlib.Nat as N
use native.Mathlib.Nat.{le_trans, le_of_eq}
use native.Mathlib.Omega.{arith}
use lib.Dec.{lit≤}
use lib.IntN.{ℤ, pos, neg_ℤ, ◌+ℤ◌, ◌-ℤ◌, ◌*ℤ◌, nat_abs}
use lib.Signed.{shr_z}
use Rattle.algebra.specs.Integers.{dist}
use Rattle.algebra.specs.Near.{Near}
use Rattle.algebra.proofs.Ring.{end, ◌▸◌, ring, quote}
use Rattle.algebra.proofs.Order.{pos_sub, abs_mul, abs_neg}
use Rattle.algebra.proofs.Near.{near_dist, near_as, near_trans, near_sub, near_neg, near_scale, near_unscale, near_mul}
use Rattle.algebra.proofs.Floor.{near_rounded}
use Rattle.algebra.proofs.Turns.{Turns, turns_of, turns_right, turns_removed, remainder_less}
use Rattle.sine.specs.Exact.{sine_den, exact_sine, exact_cosine}
use Rattle.sine.specs.Ours.{our_sine, our_cosine}
use Rattle.sine.specs.Within.{sine_distance}
use Rattle.sine.proofs.Angles.{sine_den_positive}
use Rattle.sine.proofs.Sizes.{sine_below, cosine_below}
use Rattle.sine.proofs.Distance.{SineNear, sine_near, cosine_near}
use Rattle.instants.specs.Moments.{century, latest, since}
use Rattle.arguments.specs.Ours.{high}
use Rattle.arguments.proofs.Floor.{high_near}
use Rattle.rows.specs.declared.Row.{Row}
use Rattle.rows.specs.declared.Place.{Place}
use Rattle.rows.specs.Table.{largest, AcceptedTable}
use Rattle.rows.specs.Places.{place, parts, interpolated}
use Rattle.nutation.specs.Exact.{XC, XS, YC, YS, angle_parts, exact_angle, exact_offset}
use Rattle.nutation.specs.Ours.{start_angle, angle_rate, our_angle, amplitude, our_Xc, our_Xs, our_Yc, our_Ys, offset, our_offset, offsets_at, our_offsets}
use Rattle.nutation.specs.Claims.{distance, OffsetWithin, OffsetsNear}
use Rattle.rows.specs.Inner.{AcceptedRow, Placed}
use Rattle.rows.proofs.Places.{placed}
use Rattle.rows.proofs.Interpolated.{parts_positive}
use Rattle.nutation.proofs.Sizes.{gone_le, angle_less}
use Rattle.instants.specs.Limits.{day_micros}
use Rattle.nutation.proofs.Interpolation.{amplitude_near, value_small}

-- ---- the angle: within 2 units of 2^-41 turn, but for whole turns. The start and the rate are to nearest, and the rate's product is cut.

abbrev angle_distance : ℕ
angle_distance = 2

-- 400 turns more than the exact angle
turned : ℤ → ℤ
turned x = neg_ℤ ((x -ℤ pos 5 *ℤ pos century) *ℤ pos 100) +ℤ pos 400 *ℤ pos angle_parts

angle_units : (x : ℕ) → x ≤ latest → Near (pos (start_angle - high x angle_rate) *ℤ pos angle_parts) (pos (2 ^ 41) *ℤ turned (pos x)) (angle_distance * angle_parts)
unfolding turned
angle_units x h =
    near_as (near_sub (near_dist (start_angle * angle_parts) (2 ^ 41 * (500 * century + 400 * angle_parts)))
    (high_near (2 ^ 64) angle_parts (2 ^ 41 * 100) angle_rate E latest x (lit≤ tt) h (near_dist (angle_rate * angle_parts) (2 ^ 64 * (2 ^ 41 * 100)))))
    (ap (λ (z : ℤ). z *ℤ pos angle_parts) (pos_sub (gone_le x h)) ∙ alg₁ (pos start_angle) (pos (high x angle_rate)) (pos angle_parts)) (alg₂ (pos x) (pos (2 ^ 41)) (pos century) (pos angle_parts)) (lit≤ tt)
  where
    E : ℕ
    E = dist (angle_rate * angle_parts) (2 ^ 64 * (2 ^ 41 * 100))

    alg₁ : (a b q : ℤ) → (a -ℤ b) *ℤ q ≡ a *ℤ q -ℤ b *ℤ q
    alg₁ a b q = ring (a ▸ b ▸ q ▸ end) (search quote depth 13) tt

    alg₂ : (x k n q : ℤ) → k *ℤ (neg_ℤ ((x -ℤ pos 5 *ℤ n) *ℤ pos 100) +ℤ pos 400 *ℤ q) ≡ k *ℤ (pos 500 *ℤ n +ℤ pos 400 *ℤ q) -ℤ k *ℤ pos 100 *ℤ x
    alg₂ x k n q = ring (x ▸ k ▸ n ▸ q ▸ end) (search quote depth 13) tt

angle_near : (x : ℕ) → x ≤ latest → Turns (2 ^ 41) angle_parts (pos (our_angle x)) (pos (exact_angle (since x))) angle_distance
unfolding turned our_angle since
angle_near x h =
    turns_removed (lit≤ tt)
    (turns_right (2 ^ 41) angle_parts (pos 400) {z = pos (start_angle - high x angle_rate)} {P = turned (pos x)} {P' = neg_ℤ ((pos x -ℤ pos 5 *ℤ pos century) *ℤ pos 100)} refl
    (turns_of (2 ^ 41) angle_parts {z = pos (start_angle - high x angle_rate)} {P = turned (pos x)} (angle_units x h)))

-- ---- an offset: a / W stands for the amplitude A of 2^10, and u / D for the sine or cosine U of 2^31

module _ (W D : ℕ) where
  record Factors (A a U u : ℤ) : Type 0 where
    pub amp : Near (A *ℤ pos W) (a *ℤ pos (2 ^ 10)) (3 * W)
    pub amp_small : nat_abs a ≤ largest * W
    pub wave : SineNear U u D angle_distance
    pub wave_small : nat_abs U ≤ 2 ^ 32

  -- one product, of 2^41 * 64
  product_error : ℕ
  product_error = (64 * sine_distance + angle_distance) * D * (largest * W * 2 ^ 10) + 2 ^ 32 * (64 * D) * (3 * W)

  product_near : {A a U u : ℤ} → Factors A a U u → Near (U *ℤ pos (64 * D) *ℤ (A *ℤ pos W)) (u *ℤ pos (64 * 2 ^ 31) *ℤ (a *ℤ pos (2 ^ 10))) product_error
  unfolding product_error
  product_near {A} {a} {U} {u} f = near_mul (largest * W * 2 ^ 10) (2 ^ 32 * (64 * D))
      (le_trans (le_of_eq (abs_mul a (pos (2 ^ 10)))) (N.mul-le-mul_right (2 ^ 10) f.amp_small))
      (le_trans (le_of_eq (abs_mul U (pos (64 * D)))) (N.mul-le-mul_right (64 * D) f.wave_small)) f.wave f.amp

  offset_near : {C c S s cos co sin si : ℤ} → Factors C c cos co → Factors S s sin si → OffsetWithin (offset C S cos sin) (pos 10 *ℤ (c *ℤ co -ℤ s *ℤ si)) (W * D)
  unfolding offset product_error
  offset_near {C} {c} {S} {s} {cos} {co} {sin} {si} f g =
      near_unscale (64 * 2 ^ 41) (near_as (near_trans (near_scale (pos (64 * (W * D))) (near_rounded (2 ^ 40) v (lit≤ tt))) (near_as (near_scale (pos 10) (near_sub (product_near f) (product_near g)))
      (alg₁ C S cos sin (pos W) (pos D)) refl (N.le_refl (10 * (product_error + product_error)))))
      (alg₂ r (pos W) (pos D)) (alg₃ c s co si) errors) (lit≤ tt)
    where
      v : ℤ
      v = pos 10 *ℤ (C *ℤ cos -ℤ S *ℤ sin)

      r : ℤ
      r = shr_z (v +ℤ pos (2 ^ 40)) (2 ^ 41)

      alg₁ : (a b u w k d : ℤ) → pos 64 *ℤ (k *ℤ d) *ℤ (pos 10 *ℤ (a *ℤ u -ℤ b *ℤ w)) ≡ pos 10 *ℤ (u *ℤ (pos 64 *ℤ d) *ℤ (a *ℤ k) -ℤ w *ℤ (pos 64 *ℤ d) *ℤ (b *ℤ k))
      alg₁ a b u w k d = ring (a ▸ b ▸ u ▸ w ▸ k ▸ d ▸ end) (search quote depth 13) tt

      alg₂ : (r k d : ℤ) → pos (64 * 2 ^ 41) *ℤ (r *ℤ (k *ℤ d)) ≡ pos 64 *ℤ (k *ℤ d) *ℤ (r *ℤ pos (2 ^ 41))
      alg₂ r k d = ring (r ▸ k ▸ d ▸ end) (search quote depth 13) tt

      alg₃ : (a b u w : ℤ) → pos (64 * 2 ^ 41) *ℤ (pos 10 *ℤ (a *ℤ u -ℤ b *ℤ w)) ≡ pos 10 *ℤ (u *ℤ pos (64 * 2 ^ 31) *ℤ (a *ℤ pos (2 ^ 10)) -ℤ w *ℤ pos (64 * 2 ^ 31) *ℤ (b *ℤ pos (2 ^ 10)))
      alg₃ a b u w = ring (a ▸ b ▸ u ▸ w ▸ end) (search quote depth 13) tt

      errors : 64 * (W * D) * 2 ^ 40 + 10 * (product_error + product_error) ≤ 64 * 2 ^ 41 * (distance * (W * D)) + 0
      errors = omega arith

  minus_factors : {A a U u : ℤ} → Factors A a U u → Factors (neg_ℤ A) (neg_ℤ a) U u
  minus_factors {A} {a} f = record {
    amp = near_as (near_neg f.amp) (alg A (pos W)) (alg a (pos (2 ^ 10))) (N.le_refl (3 * W));
    amp_small = le_trans (le_of_eq (abs_neg a)) f.amp_small;
    wave = f.wave;
    wave_small = f.wave_small;
  }
    where
      alg : (z k : ℤ) → neg_ℤ z *ℤ k ≡ neg_ℤ (z *ℤ k)
      alg z k = ring (z ▸ k ▸ end) (search quote depth 13) tt

-- ---- both offsets, at a place of an accepted table

module _ (p : Place) (x : ℕ) (at : Placed p x) (h : x ≤ latest) where
  -- the denominator of the exact sine and cosine
  D : ℕ
  D = sine_den angle_parts

  below : exact_angle (since x) < angle_parts
  below = remainder_less (neg_ℤ (since x *ℤ pos 100)) angle_parts (lit≤ tt)

  factors : {U u : ℤ} (f : Row → ℤ) → ((r : Row) → AcceptedRow r → nat_abs (f r) ≤ largest) → SineNear U u D angle_distance → nat_abs U < 2 ^ 32
      → Factors (parts p) D (amplitude f p x) (interpolated f p x) U u
  factors f k w s = record { amp = amplitude_near f k p x at; amp_small = value_small f k p x at; wave = w; wave_small = N.le_of_lt s }

  cos_near : SineNear (our_cosine (our_angle x)) (exact_cosine angle_parts (exact_angle (since x))) D angle_distance
  unfolding D
  cos_near = cosine_near (43021 * (day_micros / 4)) (exact_angle (since x)) (our_angle x) angle_distance (lit≤ tt) below (angle_less x) (angle_near x h)

  sin_near : SineNear (our_sine (our_angle x)) (exact_sine angle_parts (exact_angle (since x))) D angle_distance
  unfolding D
  sin_near = sine_near (43021 * (day_micros / 4)) (exact_angle (since x)) (our_angle x) angle_distance (lit≤ tt) below (angle_less x) (angle_near x h)

  x_near : OffsetWithin (our_offset (our_Xc p x) (our_Xs p x) x) (exact_offset (XC p x) (XS p x) x) (parts p * D)
  unfolding exact_offset D
  x_near = offset_near (parts p) D (factors (λ r. r.xc) (λ r a. a.xc_small) cos_near (cosine_below (our_angle x))) (factors (λ r. r.xs) (λ r a. a.xs_small) sin_near (sine_below (our_angle x)))

  y_near : OffsetWithin (our_offset (our_Yc p x) (our_Ys p x) x) (exact_offset (YC p x) (YS p x) x) (parts p * D)
  unfolding exact_offset D
  y_near = offset_near (parts p) D (factors (λ r. r.xs) (λ r a. a.xs_small) cos_near (cosine_below (our_angle x))) (minus_factors (parts p) D (factors (λ r. r.xc) (λ r a. a.xc_small) sin_near (sine_below (our_angle x))))

-- With any accepted table, at every moment up to the last microsecond of 2400, both offsets are within 2 nanoarcseconds of the exact ones, and the
-- uncertainty is the exact one.
pub offsets_near : (rows : List Row) → AcceptedTable rows → (x : ℕ) → x ≤ latest → OffsetsNear rows x (our_offsets rows x)
unfolding offsets_at D
offsets_near rows a x h =
    let p = placed rows a x in
    record {
      positive = N.mul-pos (parts_positive (place rows x) x p) (sine_den_positive angle_parts (lit≤ tt));
      x_near = x_near (place rows x) x p h;
      y_near = y_near (place rows x) x p h;
      uncertainty_is = refl;
    }
