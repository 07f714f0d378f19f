-- Numbers of 32 bits: two are equal exactly when their bits are, and their difference fits 64 bits. Assumes nothing.
use Prim.Native.Nat.{◌+◌, ◌≤◌}
use mathlib.Core.Path.{◌≡◌, refl, ap, sym, ◌∙◌}
use mathlib.Core.Bool.{Bool, true, false, true≢false}
use native.Mathlib.Omega.{arith}
use lib.IntN.{ℤ, pos, negsuc, neg_ℤ, ◌-ℤ◌, nat_abs}
use lib.Signed.{nat_abs-le}
use borrow.Author.Tests.{eqb-true, eq-eqb}
use mir.Syntax.{w32, w64}
use mir.Val.{SFits}
use Rattle.algebra.proofs.Order.{abs_add, abs_neg}
use Rattle.algebra.proofs.Fits.{small_fits}
use Rattle.compare.specs.Walk.{equal}

-- ---- equal numbers

pub equal_same : (a : ℤ) → equal a a ≡ true
equal_same (pos n) = eq-eqb n n refl
equal_same (negsuc n) = eq-eqb n n refl

pub equal_is : (a b : ℤ) → equal a b ≡ true → a ≡ b
equal_is (pos m) (pos n) e = ap pos (eqb-true m n e)
equal_is (negsuc m) (negsuc n) e = ap negsuc (eqb-true m n e)
equal_is (pos m) (negsuc n) e = absurd (true≢false (sym e))
equal_is (negsuc m) (pos n) e = absurd (true≢false (sym e))

not_equal : (a b : ℤ) → (a ≡ b → ⊥) → equal a b ≡ false
not_equal a b n = by (equal a b) refl
  where
    by : (t : Bool) → equal a b ≡ t → t ≡ false
    by true e = absurd (n (equal_is a b e))
    by false e = refl

pub equal_exchanged : (a b : ℤ) → equal a b ≡ equal b a
equal_exchanged a b = by (equal b a) refl
  where
    by : (t : Bool) → equal b a ≡ t → equal a b ≡ t
    by true e = ap (λ (z : ℤ). equal a z) (equal_is b a e) ∙ equal_same a
    by false e = not_equal a b (λ p. true≢false (sym (ap (λ (z : ℤ). equal z a) (sym p) ∙ equal_same a) ∙ e))

-- ---- differences

-- the magnitude of a difference
apart : (a b : ℤ) → nat_abs (b -ℤ a) ≤ nat_abs b + nat_abs a
apart a b = rw (← abs_neg a) (abs_add b (neg_ℤ a))

pub difference_fits : (a b : ℤ) → SFits w32 a → SFits w32 b → SFits w64 (b -ℤ a)
difference_fits a b f g = small_fits (b -ℤ a) (omega (arith, apart a b, nat_abs-le a f.sfits, nat_abs-le b g.sfits))
