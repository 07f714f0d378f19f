-- The first twelve terms of the sine's series x − x^3/3! + x^5/5! − .., at x = X / D, over the denominator D^23 * 23!.
use Rattle.std.specs.Prelude.{ℕ, zero, suc, ◌*◌, ◌-◌, ◌/◌, ℤ, pos, ◌*ℤ◌}
use Rattle.std.proofs.Math.IntN.{pow}
use Rattle.algebra.specs.Integers.{−◌, sumℤ}

-- n!
abbrev pub factorial : ℕ → ℕ
factorial zero = 1
factorial (suc n) = suc n * factorial n

-- (−1)^k * D^(22 − 2k) * 23! / (2k + 1)!, of X^(2k + 1)
abbrev pub series_coefficient : ℤ → ℕ → ℤ
series_coefficient D k = pow (− 1) k *ℤ pow D (22 - 2 * k) *ℤ pos (factorial 23 / factorial (suc (2 * k)))

-- D^23 * 23! times the sum of the twelve terms
abbrev pub series : ℤ → ℤ → ℤ
series X D = sumℤ 12 (λ k. series_coefficient D k *ℤ pow X (suc (2 * k)))
