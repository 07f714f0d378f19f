-- A number and a sum, one step on. Assumes nothing.
use Rattle.std.proofs.Common.{◌≡◌, ℕ, ◌+◌, ◌-◌, ◌*◌, ◌%◌, ◌^◌, ◌<◌, ◌≤◌, List, length, take, drop, get_or, ap, ◌∙◌, lt_of_lt_of_le, pow-suc, add-one, arith, sym, ◌++◌, length-drop, length-take, length-append, drop-drop, take_at, drop_at}
use native.Mathlib.Nat.{pow-le-pow_right}
use Rattle.std.proofs.lemmas.Grind.{common_steps}
use Rattle.bigendian.specs.Numbers.{number_at, word_sum}
use Rattle.bigendian.proofs.Numbers.{number_take, number_drop}

-- a byte of a part, in the whole
pub byte_in : (s : List ℕ) (a n i x : ℕ) → i < length (take (a + n - a) (drop a s)) → x ≡ get_or (take (a + n - a) (drop a s)) i 0 → x ≡ get_or s (a + i) 0
byte_in s a n i x h e = grind (arith, common_steps)

-- a number of fewer than eight bytes
pub bytes_fit : (k v : ℕ) → k < 8 → v < 256 ^ k → v < 256 ^ 7
bytes_fit k v h l = lt_of_lt_of_le l (pow-le-pow_right {n = 256} (omega arith) (seven k h))
  where
    seven : (k : ℕ) → k < 8 → k ≤ 7
    seven k h = omega arith

pub byte_more : (k v b : ℕ) → v < 256 ^ k → b < 256 → v * 256 + b < 256 ^ (k + 1)
byte_more k v b h l = rw (add-one k, pow-suc) (omega arith)

wraps : (x w : ℕ) → (x % 0x1_0000 + w) % 0x1_0000 ≡ (x + w) % 0x1_0000
wraps x w = omega arith

-- x is word k of the first n words of s, and t is what is behind it
pub record NextWord (s : List ℕ) (n k : ℕ) (x t : List ℕ) : Type 0 where
  pub within : k < n
  pub rest : t ≡ drop (2 * (k + 1)) (take (2 * n) s)
  pub number : number_at x 0 2 ≡ number_at s (2 * k) 2

module _ (s : List ℕ) (n k : ℕ) (x t : List ℕ) (two : length x ≡ 2) (is : drop (2 * k) (take (2 * n) s) ≡ x ++ t) where
  word_within : k < n
  word_within = omega (arith, two, ap length is, length-drop (2 * k) (take (2 * n) s), length-take (2 * n) s, length-append x t)

  word_rest : t ≡ drop (2 * (k + 1)) (take (2 * n) s)
  word_rest =
      let e : 2 * k + 2 ≡ 2 * (k + 1) = omega arith in
      sym (drop_at x t 2 two) ∙ (ap (drop 2) (sym is) ∙ (drop-drop 2 (2 * k) (take (2 * n) s) ∙ ap (λ (m : ℕ). drop m (take (2 * n) s)) e))

  word_number : number_at x 0 2 ≡ number_at s (2 * k) 2
  word_number =
      let e : take 2 (drop (2 * k) (take (2 * n) s)) ≡ x = ap (take 2) is ∙ take_at x t 2 two in
      let z : 2 * k + 0 ≡ 2 * k = omega arith in
      ap (λ (l : List ℕ). number_at l 0 2) (sym e)
      ∙ (number_take (drop (2 * k) (take (2 * n) s)) 2 0 2 (omega arith)
      ∙ (number_drop (2 * k) (take (2 * n) s) 0 2
      ∙ (ap (λ (m : ℕ). number_at (take (2 * n) s) m 2) z ∙ number_take s (2 * n) (2 * k) 2 (omega (arith, word_within)))))

  pub next_word : NextWord s n k x t
  next_word = record { within = word_within; rest = word_rest; number = word_number }

pub sum_more : (s : List ℕ) (k t r w : ℕ) → t ≡ word_sum s k % 0x1_0000 → w ≡ number_at s (2 * k) 2 → r ≡ (t + w) % 0x1_0000 → r ≡ word_sum s (k + 1) % 0x1_0000
unfolding word_sum
sum_more s k t r w p q e =
    rw add-one
    (e ∙ (ap (λ (x : ℕ). (x + w) % 0x1_0000) p ∙ (wraps (word_sum s k) w ∙ ap (λ (x : ℕ). (word_sum s k + x) % 0x1_0000) q)))
