-- Our arguments and angles in whole numbers: an angle is in units of 2^-41 turn. Time is a natural number, each argument is the difference of
-- two halves, polynomials whose coefficients are not negative, and every quotient is rounded down.
-- Derived from the IERS routines TDFRPH (the arguments) and RG_ZONT2 (the rows); not IERS Conventions software (NOTICE, docs/DIFFERENCES.md).
use Rattle.std.specs.Prelude.{List, [], ◌∷◌, ℕ, ◌+◌, ◌*◌, ◌-◌, ◌/◌, ◌%◌, ◌^◌, ℤ, ◌+ℤ◌, nat_abs, get_or}
use Rattle.algebra.specs.Integers.{+◌}
use Rattle.arguments.specs.declared.half.Half.{Half}
use Rattle.arguments.specs.Table.{multipliers}

-- the upper half of a product of two numbers of 64 bits
abbrev pub high : ℕ → ℕ → ℕ
high a b = a * b / 2 ^ 64

-- 2^88 / N, to nearest: x times it, by 2^64, is the time in centuries with 24 binary places
abbrev pub per_century : ℕ
per_century = 98069881683

-- the constants of one half of an argument: its coefficients over the turn, to nearest
abbrev pub half : ℕ → ℕ → ℕ → ℕ → ℕ → Half
half a b c d e = record { a0 = a; g = b; k2 = c; k3 = d; k4 = e }

-- the degrees from 2 on of one half, by nested products with s, the time with 24 binary places, from the inside
abbrev pub term₃ : Half → ℕ → ℕ
term₃ k s = k.k3 + s * k.k4 / 2 ^ 24

abbrev pub term₂ : Half → ℕ → ℕ
term₂ k s = k.k2 + s * term₃ k s / 2 ^ 24

abbrev pub term₁ : Half → ℕ → ℕ
term₁ k s = s * term₂ k s / 2 ^ 30

abbrev pub term₀ : Half → ℕ → ℕ
term₀ k s = s * term₁ k s / 2 ^ 28

-- one half of an argument at x
abbrev pub half_at : Half → ℕ → ℕ
half_at k x = k.a0 + high x k.g + term₀ k (high x per_century)

-- the halves of l, l', F, D and Omega
abbrev pub up₁ : Half
up₁ = half 0 17038933253433341313 53980562968 98222882 0

abbrev pub down₁ : Half
down₁ = half 14573777127753576 0 0 0 425340

abbrev pub up₂ : Half
up₂ = half 0 1285387697776969894 0 636759 0

abbrev pub down₂ : Half
down₂ = half 1097298715214116 0 967734113 0 20016

abbrev pub up₃ : Half
up₃ = half 0 17253287035876713286 0 0 7506

abbrev pub down₃ : Half
down₃ = half 14757381818728259 0 22127051287 1952185 0

abbrev pub up₄ : Half
up₄ = half 0 15898776803187135809 0 12556286 0

abbrev pub down₄ : Half
down₄ = half 13597524398099646 0 11249004205 0 55044

abbrev pub up₅ : Half
up₅ = half 59836506886220 0 12766736044 15446096 0

abbrev pub down₅ : Half
down₅ = half 0 69061302818403774 0 0 103207

-- one argument, in units of 2^-41 turn, whole turns removed
abbrev pub argument : Half → Half → ℕ → ℕ
argument up down x = (half_at up x + (2 ^ 41 - half_at down x % 2 ^ 41)) % 2 ^ 41

-- the five at x
abbrev pub our_arguments : ℕ → List ℕ
our_arguments x = argument up₁ down₁ x ∷ argument up₂ down₂ x ∷ argument up₃ down₃ x ∷ argument up₄ down₄ x ∷ argument up₅ down₅ x ∷ []

-- k * a for a multiplier k of at least -2, with two turns added so that nothing is negative
abbrev pub column : ℤ → ℕ → ℕ
column k a = nat_abs (k +ℤ + 2) * a + 2 * (2 ^ 41 - a)

-- k₁ * a₁ + k₂ * a₂ + .., so
abbrev pub columns : List ℤ → List ℕ → ℕ
columns [] xs = 0
columns (k ∷ ks) [] = 0
columns (k ∷ ks) (x ∷ xs) = column k x + columns ks xs

-- the angle of the row r, counted from 0, at x
abbrev pub our_row_angle : ℕ → ℕ → ℕ
our_row_angle r x = columns (get_or multipliers r []) (our_arguments x) % 2 ^ 41
