-- What an i64 holds.
-- Assumes nothing.
use mathlib.Core.Path.{◌≡◌, ◌∙◌, ap}
use Prim.Native.Nat.{ℕ, suc, ◌^◌, ◌<◌}
use native.Mathlib.Nat as N
use native.Mathlib.Omega.{arith}
use lib.IntN.{ℤ, pos, negsuc, neg_ℤ, ◌-ℤ◌, nat_abs}
use mir.Syntax.{w64}
use mir.Val.{SFits}
use Rattle.algebra.proofs.Ring.{end, ◌▸◌, ring, quote}
use Rattle.algebra.proofs.Order.{abs_neg}

pub small_fits : (z : ℤ) → nat_abs z < 2 ^ 63 → SFits w64 z
small_fits (pos n) h = record { sfits = h }
small_fits (negsuc n) h = record { sfits = less h }
  where
    less : suc n < 2 ^ 63 → n < 2 ^ 63
    less h = omega arith

-- zero less a number is minus it
pub zero_less : (z : ℤ) → pos 0 -ℤ z ≡ neg_ℤ z
zero_less z = ring (z ▸ end) (search quote depth 13) tt

pub zero_less_fits : (n : ℕ) (z : ℤ) → z ≡ pos n → n < 2 ^ 63 → SFits w64 (pos 0 -ℤ z)
zero_less_fits n z e h = small_fits (pos 0 -ℤ z) (N.lt_of_le_of_lt (N.le_of_eq (ap nat_abs (zero_less z) ∙ abs_neg z ∙ ap nat_abs e)) h)
