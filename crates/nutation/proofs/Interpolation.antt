-- An amplitude: ours is within 3 units of 2^-10 of the exact one. The cut from 27 binary places to 10 loses less than one unit; the factor, cut to 27
-- places, less than 2^-27 times the difference of two rows, of at most 2000 microarcseconds, which is below two units.
-- Assumes nothing.
use mathlib.Core.Path.{◌≡◌, refl, sym}
use Prim.Native.Nat.{ℕ, ◌+◌, ◌*◌, ◌-◌, ◌/◌, ◌^◌, ◌≤◌, ◌<◌}
use native.Mathlib.Nat as N
use native.Mathlib.Nat.{le_trans, le_of_eq}
use native.Mathlib.Omega.{arith}
use lib.Dec.{lit≤}
use lib.IntN.{ℤ, pos, ◌+ℤ◌, ◌-ℤ◌, ◌*ℤ◌, nat_abs}
use lib.Signed.{shr_z}
use Rattle.algebra.specs.Near.{Near}
use Rattle.algebra.proofs.Ring.{end, ◌▸◌, ring, quote}
use Rattle.algebra.proofs.Near.{near_as, near_trans, near_add, near_refl, near_scale, near_unscale}
use Rattle.algebra.proofs.Floor.{near_floor, near_shr}
use Rattle.rows.specs.declared.Row.{Row}
use Rattle.rows.specs.declared.Place.{Place}
use Rattle.rows.specs.declared.Place.TheVariants.{End, Between}
use Rattle.rows.specs.Table.{largest}
use Rattle.rows.specs.Places.{row_moment, span, parts, interpolated}
use Rattle.nutation.specs.Ours.{factor, mixed, amplitude}
use Rattle.rows.specs.Inner.{AcceptedRow, Placed}
use Rattle.rows.proofs.Interpolated.{parts_positive}
use Rattle.nutation.proofs.Sizes.{inside_span, after_less, between_small, minus_small}

mixed_near : (W off : ℕ) (c d : ℤ) → 0 < W → nat_abs c ≤ largest → nat_abs d ≤ largest
    → Near (mixed c d (off * 2 ^ 27 / W) *ℤ pos W) ((c *ℤ pos W +ℤ (d -ℤ c) *ℤ pos off) *ℤ pos (2 ^ 10)) (3 * W)
unfolding mixed
mixed_near W off c d w hc hd = near_unscale (2 ^ 17) (near_as (near_trans cut moved) (alg₁ a (pos W) (pos (2 ^ 17))) (alg₂ c d (pos W) (pos off)) errors) (lit≤ tt)
  where
    l : ℕ
    l = off * 2 ^ 27 / W

    v : ℤ
    v = c *ℤ pos (2 ^ 27) +ℤ (d -ℤ c) *ℤ pos l

    a : ℤ
    a = shr_z v (2 ^ 17)

    cut : Near (pos W *ℤ (a *ℤ pos (2 ^ 17))) (pos W *ℤ v) (W * (2 ^ 17 - 1))
    cut = near_scale (pos W) (near_shr v (2 ^ 17) (lit≤ tt))

    alg₀ : (w c d l f : ℤ) → w *ℤ (c *ℤ f +ℤ (d -ℤ c) *ℤ l) ≡ w *ℤ c *ℤ f +ℤ (d -ℤ c) *ℤ (l *ℤ w)
    alg₀ w c d l f = ring (w ▸ c ▸ d ▸ l ▸ f ▸ end) (search quote depth 13) tt

    moved : Near (pos W *ℤ v) (pos W *ℤ c *ℤ pos (2 ^ 27) +ℤ (d -ℤ c) *ℤ pos (off * 2 ^ 27)) (0 + nat_abs (d -ℤ c) * (W - 1))
    moved = near_as (near_add (near_refl (pos W *ℤ c *ℤ pos (2 ^ 27))) (near_scale (d -ℤ c) (near_floor (off * 2 ^ 27) W w)))
        (alg₀ (pos W) c d (pos l) (pos (2 ^ 27))) refl (N.le_refl (0 + nat_abs (d -ℤ c) * (W - 1)))

    alg₁ : (a w f : ℤ) → f *ℤ (a *ℤ w) ≡ w *ℤ (a *ℤ f)
    alg₁ a w f = ring (a ▸ w ▸ f ▸ end) (search quote depth 13) tt

    alg₂ : (c d w o : ℤ) → pos (2 ^ 17) *ℤ ((c *ℤ w +ℤ (d -ℤ c) *ℤ o) *ℤ pos (2 ^ 10)) ≡ w *ℤ c *ℤ pos (2 ^ 27) +ℤ (d -ℤ c) *ℤ (o *ℤ pos (2 ^ 27))
    alg₂ c d w o = ring (c ▸ d ▸ w ▸ o ▸ end) (search quote depth 13) tt

    errors : W * (2 ^ 17 - 1) + (0 + nat_abs (d -ℤ c) * (W - 1)) ≤ 2 ^ 17 * (3 * W) + 0
    errors = omega (arith, N.mul-le-mul (minus_small c d hc hd) (N.sub-le W 1))

-- ---- at a place of an accepted table

module _ (f : Row → ℤ) (k : (r : Row) → AcceptedRow r → nat_abs (f r) ≤ largest) where
  pub amplitude_near : (p : Place) (x : ℕ) → Placed p x → Near (amplitude f p x *ℤ pos (parts p)) (interpolated f p x *ℤ pos (2 ^ 10)) (3 * parts p)
  unfolding amplitude interpolated parts factor
  amplitude_near (End r) x h = near_as (near_refl (f r *ℤ pos (2 ^ 10))) (alg (f r *ℤ pos (2 ^ 10))) refl (lit≤ tt)
    where
      alg : (z : ℤ) → z *ℤ pos 1 ≡ z
      alg z = ring (z ▸ end) (search quote depth 13) tt
  amplitude_near (Between a b) x h =
      mixed_near (span a b) (x - row_moment a) (f a) (f b) (parts_positive (Between a b) x h) (k a h.0) (k b h.1)

  pub value_small : (p : Place) (x : ℕ) → Placed p x → nat_abs (interpolated f p x) ≤ largest * parts p
  unfolding interpolated parts
  value_small (End r) x h = le_trans (k r h) (lit≤ tt)
  value_small (Between a b) x h =
      between_small (span a b) (x - row_moment a) largest (f a) (f b) inner (k a h.0) (k b h.1)
    where
      inner : x - row_moment a ≤ span a b
      inner = le_trans (N.le_of_lt (after_less a b x h.2)) (le_of_eq (sym (inside_span a b x h.2)))
