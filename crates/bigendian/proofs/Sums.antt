-- Two lists that agree but for word j: their sums differ by that word, which is below 2^16, so equal wrapped sums make it equal. Assumes nothing.
use Rattle.std.proofs.Common.{◌≡◌, ℕ, zero, suc, ◌+◌, ◌*◌, ◌%◌, ◌<◌, ◌≤◌, List, refl, ap₂, arith}
use native.Mathlib.Decide.{ℕ_discrete}
use Rattle.bigendian.specs.Numbers.{Bytes, number_at, word_sum}
use Rattle.bigendian.proofs.Numbers.{number_below}

module _ (s t : List ℕ) (j : ℕ) (same : (m : ℕ) → (m ≡ j → ⊥) → number_at s (2 * m) 2 ≡ number_at t (2 * m) 2) where
  before : (k : ℕ) → k ≤ j → word_sum s k ≡ word_sum t k
  unfolding word_sum
  before zero h = refl
  before (suc k) h = ap₂ ◌+◌ (before k (omega arith)) (same k (omega arith))

  sums : (k : ℕ) → j < k → word_sum s k + number_at t (2 * j) 2 ≡ word_sum t k + number_at s (2 * j) 2
  unfolding word_sum
  sums zero h = let v : ⊥ = omega arith in absurd v
  sums (suc k) h = by (ℕ_discrete k j) (λ n. sums k n)
    where
      by : Dec (k ≡ j) → (j < k → word_sum s k + number_at t (2 * j) 2 ≡ word_sum t k + number_at s (2 * j) 2)
          → word_sum s k + number_at s (2 * k) 2 + number_at t (2 * j) 2 ≡ word_sum t k + number_at t (2 * k) 2 + number_at s (2 * j) 2
      by (yes p) f = rw p (omega (arith, before j (omega arith)))
      by (no p) f = omega (arith, same k p, f (omega (arith, p)))

  -- with one sum, wrapped, the word is the same too
  pub one_word : (k : ℕ) → j < k → Bytes s → Bytes t → word_sum s k % 0x1_0000 ≡ word_sum t k % 0x1_0000 → number_at s (2 * j) 2 ≡ number_at t (2 * j) 2
  one_word k h b c e = wraps_once (word_sum s k) (word_sum t k) _ _ (sums k h) e (number_below s (2 * j) 2 b) (number_below t (2 * j) 2 c)
    where
      wraps_once : (x y a b : ℕ) → x + b ≡ y + a → x % 0x1_0000 ≡ y % 0x1_0000 → a < 0x1_0000 → b < 0x1_0000 → a ≡ b
      wraps_once x y a b e w p q = omega arith
