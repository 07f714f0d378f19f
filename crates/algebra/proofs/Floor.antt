-- Quotients rounded down, and to nearest.
-- Assumes nothing.
use Prim.Native.Nat.{ℕ, suc, ◌*◌, ◌-◌, ◌/◌, ◌≤◌, ◌<◌}
use native.Mathlib.Nat as N
use native.Mathlib.Omega.{arith}
use lib.IntN.{ℤ, pos, negsuc, ◌+ℤ◌, ◌*ℤ◌}
use lib.Signed.{shr_z}
use Rattle.algebra.specs.Near.{Near}
use Rattle.algebra.proofs.Order.{◌≼◌, ≼_trans, le_plus, atom, linear, to_ℕ, of_ℕ, pos_le}
use Rattle.algebra.proofs.Near.{near_of, near_ℕ}

-- rounded down, of a natural number
pub near_floor : (n d : ℕ) → 0 < d → Near (pos (n / d) *ℤ pos d) (pos n) (d - 1)
near_floor n d h = near_ℕ (omega (arith, N.div-mul-le_self n d)) (omega (arith, N.lt-div-mul-add {a = n} h))

-- one more than the quotient rounded down is no less than the quotient
pub floor_next : (n d : ℕ) → 0 < d → n ≤ suc (n / d) * d
floor_next n d h = omega (arith, N.lt-div-mul-add {a = n} h)

-- rounded down, of either sign
pub shr_le : (z : ℤ) (d : ℕ) → 0 < d → shr_z z d *ℤ pos d ≼ z
shr_le (pos n) d h = pos_le (N.div-mul-le_self n d)
shr_le (negsuc n) d h = of_ℕ (search linear) (omega (arith, N.lt-div-mul-add {a = n} h))

pub shr_ge : (z : ℤ) (d : ℕ) → 0 < d → z ≼ shr_z z d *ℤ pos d +ℤ pos (d - 1)
shr_ge (pos n) d h = of_ℕ (search linear) (omega (arith, N.lt-div-mul-add {a = n} h))
shr_ge (negsuc n) d h = of_ℕ (search linear) (omega (arith, N.div-mul-le_self n d))

pub near_shr : (z : ℤ) (d : ℕ) → 0 < d → Near (shr_z z d *ℤ pos d) z (d - 1)
near_shr z d h = near_of (≼_trans (shr_le z d h) (le_plus z (d - 1))) (shr_ge z d h)

-- half of the divisor added first: the quotient is rounded to the nearest
pub near_rounded : (h : ℕ) (z : ℤ) → 0 < h → Near (shr_z (z +ℤ pos h) (2 * h) *ℤ pos (2 * h)) z h
near_rounded h z positive = go (shr_z (z +ℤ pos h) (2 * h) *ℤ pos (2 * h)) (shr_le (z +ℤ pos h) (2 * h) (omega arith)) (shr_ge (z +ℤ pos h) (2 * h) (omega arith))
  where
    go : (y : ℤ) → y ≼ z +ℤ pos h → z +ℤ pos h ≼ y +ℤ pos (2 * h - 1) → Near y z h
    go y lo hi =
        let ly = atom y in let lz = atom z in
        near_of lo (of_ℕ (search linear) (omega (arith, to_ℕ (search linear) hi)))
