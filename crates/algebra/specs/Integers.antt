-- Whole numbers: how they are written, remainders, distances and sums.
use Rattle.std.specs.Prelude.{ℕ, zero, suc, ◌+◌, ◌-◌, ◌%◌, ℤ, pos, negsuc, neg_ℤ, ◌+ℤ◌}

-- a whole number by its sign and its digits
infix 99 +◌ −◌
abbrev pub +◌ : ℕ → ℤ
+ n = pos n

abbrev pub −◌ : ℕ → ℤ
− n = neg_ℤ (pos n)

-- the remainder of z by q that is at least 0 and below q
abbrev pub remainder : ℤ → ℕ → ℕ
remainder (pos a) q = a % q
remainder (negsuc a) q = q - 1 - a % q

-- how far two natural numbers are apart
abbrev pub dist : ℕ → ℕ → ℕ
dist a b = a - b + (b - a)

-- f 0 + f 1 + .. + f (n − 1)
abbrev pub sumℤ : ℕ → (ℕ → ℤ) → ℤ
sumℤ zero f = pos 0
sumℤ (suc n) f = sumℤ n f +ℤ f n

abbrev pub sumℕ : ℕ → (ℕ → ℕ) → ℕ
sumℕ zero f = 0
sumℕ (suc n) f = sumℕ n f + f n
