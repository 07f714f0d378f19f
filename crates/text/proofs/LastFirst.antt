-- A numeral put into a buffer, its last digit first: the digits that are still to come, and what stands behind them, are at each step what is to stand
-- there in the end. Assumes nothing.
use Prim.Native.Nat.{ℕ, zero, suc, ◌/◌, ◌%◌, ◌<◌}
use mathlib.Core.Path.{◌≡◌, refl, ap, sym, ◌∙◌}
use mathlib.Core.List.{List, [], ◌∷◌, ◌++◌, append_assoc}
use native.Mathlib.Omega.{arith}
use lib.ListN.{length, drop, set, length-set}
use Rattle.bigendian.specs.Buffers.{at_front}
use Rattle.bigendian.proofs.Puts.{stored}
use Rattle.bigendian.proofs.Buffers.{front_is}
use Rattle.text.specs.Text.{digit, numeral_in, numeral}
use Rattle.text.proofs.Numerals.{by_digits, in_one, in_more, one_longer}

-- the k lowest digits of n, with leading zeros
abbrev pub lowest : ℕ → ℕ → List ℕ
lowest zero n = []
lowest (suc k) n = lowest k (n / 10) ++ digit (n % 10) ∷ []

-- a numeral is as many of them as it has
numeral_lowest : (k n : ℕ) → numeral_in k n ≡ lowest (length (numeral_in k n)) n
unfolding numeral_in
numeral_lowest zero n = refl
numeral_lowest (suc k) n =
    let i : numeral_in k (n / 10) ≡ lowest (length (numeral_in k (n / 10))) (n / 10) = numeral_lowest k (n / 10) in
    by_digits n
    (λ l. let e : n ≡ n % 10 = omega arith in rw (in_one k n l) (ap (λ (d : ℕ). digit d ∷ []) e))
    (λ l. rw (in_more k n l, one_longer) (ap (λ (ds : List ℕ). ds ++ digit (n % 10) ∷ []) i))

-- of the numeral of n, with `size` digits, the lowest are put and `left` of them are not, those of `rest`
pub record DigitsLeft (old : List ℕ) (n size : ℕ) (s : List ℕ) (rest left : ℕ) : Type 0 where
  pub same : length s ≡ length old
  pub whole : lowest left rest ++ drop left s ≡ numeral n ++ drop size old

pub fill_none : (old : List ℕ) (n size : ℕ) → size ≡ length (numeral n) → DigitsLeft old n size old n size
fill_none old n size e =
    record { same = refl; whole = ap (λ (ds : List ℕ). ds ++ drop size old) (ap (λ (k : ℕ). lowest k n) e ∙ sym (numeral_lowest 20 n)) }

pub fill_more : {old : List ℕ} {n size : ℕ} {s : List ℕ} {rest j : ℕ} → j < length s → DigitsLeft old n size s rest (suc j) → DigitsLeft old n size (set s j (digit (rest % 10))) (rest / 10) j
fill_more {s = s} {rest = rest} {j = j} h p =
    record {
      same = length-set s j (digit (rest % 10)) ∙ p.same;
      whole =
          ap (λ (l : List ℕ). lowest j (rest / 10) ++ l) (stored s j (digit (rest % 10)) h)
          ∙ (sym (append_assoc (lowest j (rest / 10)) (digit (rest % 10) ∷ []) (drop (suc j) s)) ∙ p.whole);
    }

pub fill_all : {old : List ℕ} {n size : ℕ} {s : List ℕ} {rest : ℕ} → size ≡ length (numeral n) → DigitsLeft old n size s rest 0 → s ≡ at_front (numeral n) old
fill_all {old = old} {n = n} {size = size} e p = p.whole ∙ sym (front_is (numeral n) old size (sym e))
