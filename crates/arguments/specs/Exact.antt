-- The exact arguments and the exact angle of each row of the table, in whole numbers: an angle is a numerator over `turn_parts`, in turns.
-- Derived from the IERS routine TDFRPH; not IERS Conventions software (NOTICE, docs/DIFFERENCES.md).
use Rattle.std.specs.Prelude.{List, [], ◌∷◌, ℕ, ◌*◌, ◌^◌, ℤ, pos, ◌+ℤ◌, ◌*ℤ◌, get_or}
use Rattle.std.proofs.Math.IntN.{pow}
use Rattle.algebra.specs.Integers.{+◌, −◌, remainder}
use Rattle.instants.specs.Moments.{century}
use Rattle.arguments.specs.Table.{multipliers}

-- a polynomial's coefficients, from that of degree 0 on
pub record Polynomial : Type 0 where
  pub c₀ : ℤ
  pub c₁ : ℤ
  pub c₂ : ℤ
  pub c₃ : ℤ
  pub c₄ : ℤ

-- a + b x + c x^2 + d x^3 + e x^4
abbrev pub polynomial : ℤ → ℤ → ℤ → ℤ → ℤ → Polynomial
polynomial a b c d e = record { c₀ = a; c₁ = b; c₂ = c; c₃ = d; c₄ = e }

-- its value at n / N, times N^4
abbrev pub value : ℤ → Polynomial → ℤ → ℤ
value N p n =
    p.c₀ *ℤ pow N 4 +ℤ p.c₁ *ℤ (pow N 3 *ℤ n) +ℤ p.c₂ *ℤ (pow N 2 *ℤ pow n 2) +ℤ p.c₃ *ℤ (N *ℤ pow n 3) +ℤ p.c₄ *ℤ pow n 4

-- l, l', F, D and Omega: F1 to F5 of TDFRPH, in degrees, with coefficients times 10^10
abbrev pub F1 : Polynomial
F1 = polynomial (+ 1349634025100) (+ 4771988675605000) (+ 88553333) (+ 143431) (− 680)

abbrev pub F2 : Polynomial
F2 = polynomial (+ 3575291091806) (+ 359990502911389) (− 1536667) (+ 378) (− 32)

abbrev pub F3 : Polynomial
F3 = polynomial (+ 932720906200) (+ 4832020174577222) (− 35420000) (− 2881) (+ 12)

abbrev pub F4 : Polynomial
F4 = polynomial (+ 2978501954694) (+ 4452671114469445) (− 17696111) (+ 18314) (− 88)

abbrev pub F5 : Polynomial
F5 = polynomial (+ 1250445550100) (− 19341362619722) (+ 20756111) (+ 21394) (− 165)

-- a turn of 360 degrees, times 10^10
abbrev pub turn : ℕ
turn = 3_600_000_000_000

-- the parts of a turn that N^4 makes of it
abbrev pub turn_parts : ℕ
turn_parts = turn * century ^ 4

-- the five arguments at n, each over turn_parts
abbrev pub exact_arguments : ℤ → List ℤ
exact_arguments n = value (pos century) F1 n ∷ value (pos century) F2 n ∷ value (pos century) F3 n ∷ value (pos century) F4 n ∷ value (pos century) F5 n ∷ []

-- k₁ x₁ + k₂ x₂ + ..
abbrev pub combination : List ℤ → List ℤ → ℤ
combination [] xs = + 0
combination (k ∷ ks) [] = + 0
combination (k ∷ ks) (x ∷ xs) = k *ℤ x +ℤ combination ks xs

-- the angle of the row r, counted from 0, at n: its combination, whole turns removed, over turn_parts
abbrev pub exact_row_angle : ℕ → ℤ → ℕ
exact_row_angle r n = remainder (combination (get_or multipliers r []) (exact_arguments n)) turn_parts
