-- The product by its columns of 32 bits, each with the carry of the one below.
use Rattle.std.proofs.Common.{ℕ, ◌≡◌, ◌+◌, ◌*◌, ◌/◌, ◌%◌, ◌^◌, ◌∙◌, sym, ap₂, arith}
use Rattle.std.proofs.Math.Nat.{div-add-mod'}
use Rattle.algebra.proofs.Ring.{end, ◌▹◌, ring_n, quoteN}
use Rattle.arguments.proofs.high.Goals as goal

columns : (a b : ℕ) → a * b ≡ a / 2 ^ 32 * (b / 2 ^ 32) * 2 ^ 64
    + (a / 2 ^ 32 * (b % 2 ^ 32) + a % 2 ^ 32 * (b / 2 ^ 32)) * 2 ^ 32 + a % 2 ^ 32 * (b % 2 ^ 32)
columns a b = ap₂ ◌*◌ (sym (div-add-mod' a (2 ^ 32))) (sym (div-add-mod' b (2 ^ 32))) ∙ alg (a / 2 ^ 32) (a % 2 ^ 32) (b / 2 ^ 32) (b % 2 ^ 32)
  where
    alg : (p q r s : ℕ) → (p * 2 ^ 32 + q) * (r * 2 ^ 32 + s) ≡ p * r * 2 ^ 64 + (p * s + q * r) * 2 ^ 32 + q * s
    alg p q r s = ring_n (p ▹ q ▹ r ▹ s ▹ end) (search quoteN depth 13) tt

abbrev middle : ℕ → ℕ → ℕ
middle a b = a / 2 ^ 32 * (b % 2 ^ 32) + a % 2 ^ 32 * (b % 2 ^ 32) / 2 ^ 32

abbrev next : ℕ → ℕ → ℕ
next a b = a % 2 ^ 32 * (b / 2 ^ 32) + middle a b % 2 ^ 32

law : (a b : ℕ) → a / 2 ^ 32 * (b / 2 ^ 32) + middle a b / 2 ^ 32 + next a b / 2 ^ 32 ≡ a * b / 2 ^ 64
law a b = omega (arith, columns a b)

pub returns : goal.returns
returns c = law c.args.a c.args.b
