-- The amplitudes are within 1000 microarcseconds and the angle is below a turn, so that no product passes 64 bits, and what the machine reads back of each
-- signed number is that number.
use Rattle.std.proofs.Common.{◌≡◌, ℕ, ◌%◌, ◌^◌, ◌≤◌, ℤ, pos, ◌-ℤ◌, to_z, of_z, w64, ap, ◌∙◌, rules}
use native.Mathlib.Nat as N
use lib.IntN.{nat_abs}
use Rattle.std.proofs.Math.Facts.{to_z-of_z}
use Rattle.algebra.proofs.Order.{abs_neg}
use Rattle.algebra.proofs.Fits.{zero_less}
use Rattle.sine.specs.Ours.{our_sine, our_cosine}
use Rattle.sine.proofs.Sizes.{sine_below, cosine_below}
use Rattle.rows.specs.declared.Place.{Place}
use Rattle.rows.specs.Inner.{Placed}
use Rattle.nutation.specs.declared.Amplitudes.{Amplitudes}
use Rattle.nutation.specs.declared.Offsets.{Offsets}
use Rattle.nutation.specs.Ours.{our_angle, our_Xc, our_Xs, our_Ys, offset, offsets_at}
use Rattle.nutation.specs.Inner.{amplitudes, widest, OffsetBounds}
use Rattle.nutation.proofs.Sizes.{amplitude_small, minus_fits, angle_less}
use Rattle.nutation.proofs.offsets_of.Goals as goal

-- ---- our amplitudes at a place, and zero less one

module _ (p : Place) (x : ℕ) (h : Placed p x) where
  xc_small : nat_abs (our_Xc p x) ≤ widest
  xc_small = amplitude_small (λ r. r.xc) (λ r a. a.xc_small) p x h

  xs_small : nat_abs (our_Xs p x) ≤ widest
  xs_small = amplitude_small (λ r. r.xs) (λ r a. a.xs_small) p x h

  ys_is : to_z w64 (of_z w64 (pos 0 -ℤ our_Xc p x)) ≡ our_Ys p x
  ys_is = to_z-of_z (minus_fits (our_Xc p x) xc_small) ∙ zero_less (our_Xc p x)

  ys_small : nat_abs (our_Ys p x) ≤ widest
  ys_small = N.le_trans (N.le_of_eq (abs_neg (our_Xc p x))) xc_small

  x_bounds : OffsetBounds (our_Xc p x) (our_Xs p x) (our_cosine (our_angle x)) (our_sine (our_angle x))
  x_bounds = record { c_small = xc_small; s_small = xs_small; cos_small = cosine_below (our_angle x); sin_small = sine_below (our_angle x) }

  y_bounds : OffsetBounds (our_Xs p x) (our_Ys p x) (our_cosine (our_angle x)) (our_sine (our_angle x))
  y_bounds = record { c_small = xs_small; s_small = ys_small; cos_small = cosine_below (our_angle x); sin_small = sine_below (our_angle x) }

-- the same numbers
same : {c c' s s' u u' v v' : ℤ} → c ≡ c' → s ≡ s' → u ≡ u' → v ≡ v' → offset c s u v ≡ offset c' s' u' v'
same p q r t = cc

abbrev all : ℤ → ℤ → ℕ → Offsets
all x y u = record { x = x; y = y; uncertainty = u }

three : {x x' y y' : ℤ} {u u' : ℕ} → x ≡ x' → y ≡ y' → u ≡ u' → all x y u ≡ all x' y' u'
three p q r = cc

-- an angle that is ours is below a turn
angle_is : (x b : ℕ) → b ≡ our_angle x → b % 2 ^ 41 ≡ our_angle x
angle_is x b e = N.mod-eq_of_lt (N.lt_of_le_of_lt (N.le_of_eq e) (angle_less x)) ∙ e

pub offset_of-requires : goal.offset_of-requires
unfolding amplitudes
offset_of-requires c =
    let b = angle_is c.args.at c.angle_at-b.result c.angle_at-b.ensures in
    let xc = ap (λ (q : Amplitudes). q.xc) c.amplitudes_at-a.ensures in
    let xs = ap (λ (q : Amplitudes). q.xs) c.amplitudes_at-a.ensures in
    let cos = c.cosine-cos.ensures ∙ ap our_cosine b in
    let sin = c.sine-sin.ensures ∙ ap our_sine b in
    let h = x_bounds c.args.p c.args.at c.requires in
    rw (xc, xs, cos, sin) (search rules)

pub overflow_sub-a : goal.overflow_sub-a
unfolding amplitudes
overflow_sub-a c =
    let xc = ap (λ (q : Amplitudes). q.xc) c.amplitudes_at-a.ensures in
    let h = minus_fits (our_Xc c.args.p c.args.at) (xc_small c.args.p c.args.at c.requires) in
    rw xc (search rules)

pub offset_of-requires-2 : goal.offset_of-requires-2
unfolding amplitudes
offset_of-requires-2 c =
    let b = angle_is c.args.at c.angle_at-b.result c.angle_at-b.ensures in
    let xc = ap (λ (q : Amplitudes). q.xc) c.amplitudes_at-a.ensures in
    let xs = ap (λ (q : Amplitudes). q.xs) c.amplitudes_at-a.ensures in
    let cos = c.cosine-cos.ensures ∙ ap our_cosine b in
    let sin = c.sine-sin.ensures ∙ ap our_sine b in
    let ys = ys_is c.args.p c.args.at c.requires in
    let h = y_bounds c.args.p c.args.at c.requires in
    rw (xc, xs, cos, sin) (search rules)

pub returns : goal.returns
unfolding amplitudes offsets_at
returns c =
    let b = angle_is c.args.at c.angle_at-b.result c.angle_at-b.ensures in
    let xc = ap (λ (q : Amplitudes). q.xc) c.amplitudes_at-a.ensures in
    let xs = ap (λ (q : Amplitudes). q.xs) c.amplitudes_at-a.ensures in
    let cos = c.cosine-cos.ensures ∙ ap our_cosine b in
    let sin = c.sine-sin.ensures ∙ ap our_sine b in
    let ys = ys_is c.args.p c.args.at c.requires in
    let x = c.offset_of.ensures in
    let y = c.offset_of-2.ensures in
    let u = c.uncertainty_of.ensures in
    search rules
