-- A case that can't occur, because two different constructors would be equal there. Assumes nothing.
use Prim.Native.Nat.{ℕ}
use mathlib.Core.Path.{◌≡◌}
use native.Mathlib.Omega.{arith}

-- `cc` proves the premise from an equation between two different constructors
pub impossible : {A : Type 0} → ◌≡◌ {A = ℕ} 0 1 → A
impossible e = let v : ⊥ = omega arith in absurd v
