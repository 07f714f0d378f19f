-- A signed number that goes through a variable or a call is read back from its 64 bits. Where it fits, what is read back is the number; and a
-- bound of its magnitude, carried along with it, shows that it fits, through products and sums too.
-- Assumes nothing.
use mathlib.Core.Path.{◌≡◌, refl, sym, ◌∙◌, ap, ap₂, subst}
use Prim.Native.Nat.{ℕ, ◌+◌, ◌*◌, ◌^◌, ◌≤◌, ◌<◌}
use native.Mathlib.Nat.{lt_of_le_of_lt}
use lib.IntN.{ℤ, ◌+ℤ◌, ◌*ℤ◌, nat_abs}
use lib.Signed.{mag}
use mir.Syntax.{w64}
use mir.Val.{SFits, to_z, of_z}
use mir.Facts.{to_z-of_z}
use Rattle.algebra.proofs.Near.{abs_sum, abs_prod}
use Rattle.algebra.proofs.Fits.{small_fits}

-- the number that the bits of z stand for
abbrev pub read_back : ℤ → ℤ
read_back z = to_z w64 (of_z w64 z)

-- what fits is read back as it was
pub read_same : (z : ℤ) → mag z < 2 ^ 63 → read_back z ≡ z
read_same z h = to_z-of_z {w = w64} (record { sfits = h })

-- x is the number z, whose magnitude is at most b, and so much fits
pub record InBits (x z : ℤ) (b : ℕ) : Type 0 where
  pub is : x ≡ z
  pub most : nat_abs z ≤ b
  pub room : b < 2 ^ 63

pub bits_fit : {x z : ℤ} {b : ℕ} → InBits x z b → SFits w64 x
bits_fit {x} {z} h = subst (λ (y : ℤ). SFits w64 y) (sym h.is) (small_fits z (lt_of_le_of_lt h.most h.room))

pub bits_back : {x z : ℤ} {b : ℕ} → InBits x z b → InBits (read_back x) z b
bits_back h = record { is = to_z-of_z (bits_fit h) ∙ h.is; most = h.most; room = h.room }

pub bits_given : (z : ℤ) (b : ℕ) → nat_abs z ≤ b → b < 2 ^ 63 → InBits (read_back z) z b
bits_given z b h k = bits_back (record { is = refl; most = h; room = k })

-- what is equal to such a number is read back as that number
pub read_as : {x z : ℤ} (b : ℕ) → x ≡ z → nat_abs z ≤ b → b < 2 ^ 63 → read_back x ≡ z
read_as {z = z} b e h k = ap read_back e ∙ (bits_given z b h k).is

pub bits_times : {x y z w : ℤ} {a b : ℕ} → InBits x z a → InBits y w b → a * b < 2 ^ 63 → InBits (x *ℤ y) (z *ℤ w) (a * b)
bits_times {z = z} {w = w} h k r = record { is = ap₂ ◌*ℤ◌ h.is k.is; most = abs_prod z w h.most k.most; room = r }

pub bits_plus : {x y z w : ℤ} {a b : ℕ} → InBits x z a → InBits y w b → a + b < 2 ^ 63 → InBits (x +ℤ y) (z +ℤ w) (a + b)
bits_plus {z = z} {w = w} h k r = record { is = ap₂ ◌+ℤ◌ h.is k.is; most = abs_sum z w refl h.most k.most; room = r }
