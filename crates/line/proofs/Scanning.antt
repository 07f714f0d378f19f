-- A number as the code finds it: its digits end at the first byte that is none, which is sought among eleven. Assumes nothing.
use Prim.Native.Nat.{ℕ, zero, suc, ◌+◌, ◌-◌, ◌*◌, ◌^◌, ◌<◌, ◌≤◌}
use mathlib.Core.Path.{◌≡◌, refl, ap, ◌∙◌, sym}
use mathlib.Core.Bool.{Bool, true, false, cond, not, ◌&&◌}
use mathlib.Core.List.{List, [], ◌∷◌, ◌++◌}
use native.Mathlib.Omega.{arith}
use native.Mathlib.Nat.{lt_of_lt_of_le, pow-le-pow_right, pow-suc}
use native.Mathlib.Numerals.{add-one}
use lib.Dec.{ltb, leb}
use lib.ListN.{length, get_or, take, drop, drop_of_length-le}
use lib.Seq.{drop-cons}
use borrow.Author.Tests.{leb-true, ltb-true, lt-ltb, le-ltb, ltb-false, eq-eqb, ne_eqb}
use Rattle.std.proofs.Common.{◌⊎◌, inl, inr, Some, None, min}
use Rattle.std.specs.List.{position, position_or_len}
use Rattle.std.proofs.lemmas.List.{length-take, take_more}
use Rattle.std.proofs.lemmas.List.Recursion.{is_position_or_len}
use Rattle.line.specs.Lines.{is_digit, digits, decimal_from, decimal, Number, NoNumber, read_number}

-- a case that can't occur: `cc` proves the premise from an equation between two different constructors
pub impossible : {A : Type 0} → ◌≡◌ {A = ℕ} 0 1 → A
impossible e = let v : ⊥ = omega arith in absurd v

-- ---- digits

pub digits_more : (x : ℕ) (s : List ℕ) → is_digit x ≡ true → digits (x ∷ s) ≡ x ∷ digits s
unfolding digits
digits_more x s e = simp e

pub digits_none : (x : ℕ) (s : List ℕ) → is_digit x ≡ false → digits (x ∷ s) ≡ []
unfolding digits
digits_none x s e = simp e

-- a byte that is no digit
abbrev pub other : ℕ → Bool
other x = not (is_digit x)

-- ---- where they end

first_other : (s : List ℕ) → position_or_len other s ≡ length (digits s)
unfolding digits
first_other s = sym (is_position_or_len (λ s. length (digits s)) other refl (λ x s. step (is_digit x) x s) s)
  where
    step : (b : Bool) (x : ℕ) (s : List ℕ) → length (cond b (x ∷ digits s) []) ≡ cond (not b) 0 (1 + length (digits s))
    step true x s = omega arith
    step false x s = refl

length_front : (n : ℕ) (s : List ℕ) → length (digits (take n s)) ≡ min n (length (digits s))
unfolding digits
length_front zero s = omega arith
length_front (suc n) [] = omega arith
length_front (suc n) (x ∷ s) = by (is_digit x) (length_front n s)
  where
    by : (b : Bool) → length (digits (take n s)) ≡ min n (length (digits s)) → length (cond b (x ∷ digits (take n s)) []) ≡ min (suc n) (length (cond b (x ∷ digits s) []))
    by true e = omega arith
    by false e = omega arith

few : (s : List ℕ) → length (digits s) ≤ length s
unfolding digits
few [] = omega arith
few (x ∷ s) = by (is_digit x) (few s)
  where
    by : (b : Bool) → length (digits s) ≤ length s → length (cond b (x ∷ digits s) []) ≤ suc (length s)
    by true e = omega arith
    by false e = omega arith

digits_front : (s : List ℕ) → digits s ≡ take (length (digits s)) s
unfolding digits
digits_front [] = refl
digits_front (x ∷ s) = by (is_digit x) (digits_front s)
  where
    by : (b : Bool) → digits s ≡ take (length (digits s)) s → cond b (x ∷ digits s) [] ≡ take (length (cond b (x ∷ digits s) [])) (x ∷ s)
    by true e = ap (λ l. x ∷ l) e
    by false e = refl

-- each byte before their end is a digit
pub is_digit_at : (s : List ℕ) (k : ℕ) → k < length (digits s) → is_digit (get_or s k 0) ≡ true
unfolding digits
is_digit_at [] k h = absurd (omega arith)
is_digit_at (x ∷ s) k h = by (is_digit x) refl (is_digit_at s) k h
  where
    by : (b : Bool) → is_digit x ≡ b → ((k : ℕ) → k < length (digits s) → is_digit (get_or s k 0) ≡ true)
        → (k : ℕ) → k < length (cond b (x ∷ digits s) []) → is_digit (get_or (x ∷ s) k 0) ≡ true
    by true e f zero h = e
    by true e f (suc k) h = f k (omega arith)
    by false e f k h = absurd (omega arith)

-- the digits of s are its first n bytes, and another byte follows
pub record Ends (s : List ℕ) (n : ℕ) : Type 0 where
  pub size : length (digits s) ≡ n
  pub front : digits s ≡ take n s
  pub inside : n < length s

-- what is sought among c bytes
module _ (c : ℕ) (s : List ℕ) where
  end_is : position other (take c s) ≡ cond (ltb (min c (length (digits s))) (min c (length s))) (Some (min c (length (digits s)))) None
  end_is = rw (first_other (take c s), length_front c s, length-take c s)

  -- found at n
  pub found : (n : ℕ) → position other (take c s) ≡ Some n → Ends s n × (n < c)
  found n e = by (ltb (min c (length (digits s))) (min c (length s))) refl (sym end_is ∙ e)
    where
      by : (b : Bool) → ltb (min c (length (digits s))) (min c (length s)) ≡ b → cond b (Some (min c (length (digits s)))) None ≡ Some n → Ends s n × (n < c)
      by true t e =
          let at : min c (length (digits s)) ≡ n = cc in
          let l : min c (length (digits s)) < min c (length s) = ltb-true _ _ t in
          let size : length (digits s) ≡ n = omega arith in
          (record { size = size; front = digits_front s ∙ ap (λ k. take k s) size; inside = omega (arith, few s) }, omega arith)
      by false t e = impossible (cc)

  -- not found: the digits are c or more, or all of s
  pub missing : position other (take c s) ≡ None → length (digits s) < length s → c ≤ length (digits s)
  missing e = by (ltb (min c (length (digits s))) (min c (length s))) refl (sym end_is ∙ e)
    where
      by : (b : Bool) → ltb (min c (length (digits s))) (min c (length s)) ≡ b → cond b (Some (min c (length (digits s)))) None ≡ None → length (digits s) < length s → c ≤ length (digits s)
      by true t e h = impossible (cc)
      by false t e h = let l : min c (length s) ≤ min c (length (digits s)) = ltb-false _ _ t in omega arith

-- ---- the number

module _ (end : ℕ) (s : List ℕ) where
  none : (a b : Bool) → cond a NoNumber (cond b NoNumber NoNumber) ≡ NoNumber
  none true b = refl
  none false true = refl
  none false false = refl

  -- eleven digits, or no byte behind them
  pub without_end : position other (take 11 s) ≡ None → read_number end s ≡ NoNumber
  unfolding read_number
  without_end e = by (ltb (length (digits s)) (length s)) refl (missing 11 s e)
    where
      by : (b : Bool) → ltb (length (digits s)) (length s) ≡ b → (length (digits s) < length s → 11 ≤ length (digits s)) → read_number end s ≡ NoNumber
      by true t m =
          let l : 11 ≤ length (digits s) = m (ltb-true _ _ t) in
          simp (le-ltb (length (digits s)) 1 (omega arith), lt-ltb 10 (length (digits s)) (omega arith))
      by false t m = rw (drop_of_length-le s (ltb-false _ _ t)) (none (ltb (length (digits s)) 1) (ltb 10 (length (digits s))))

  -- no digit, or another byte behind them
  pub not_ended : (n : ℕ) → position other (take 11 s) ≡ Some n → (n ≡ 0) ⊎ (get_or s n 0 ≡ end → ⊥) → read_number end s ≡ NoNumber
  unfolding read_number
  not_ended n e h =
      let f = found 11 s n e in
      rw (f.0.size, drop-cons s n 0 f.0.inside)
      elim h [ inl z ↦ simp (lt-ltb n 1 (omega arith)) | inr d ↦ simp (ne_eqb (get_or s n 0) end d) (none (ltb n 1) (ltb 10 n)) ]

  pub ended : (n : ℕ) → position other (take 11 s) ≡ Some n → (n ≡ 0 → ⊥) → get_or s n 0 ≡ end → read_number end s ≡ Number (decimal (take n s)) (drop (n + 1) s)
  unfolding read_number
  ended n e z h =
      let f = found 11 s n e in
      rw (f.0.size, f.0.front, drop-cons s n 0 f.0.inside, add-one)
      (simp (le-ltb n 1 (omega arith), le-ltb 10 n (omega arith), eq-eqb (get_or s n 0) end h))

-- ---- its value

decimal_push : (v : ℕ) (ds : List ℕ) (x : ℕ) → decimal_from v (ds ++ x ∷ []) ≡ decimal_from v ds * 10 + (x - 48)
unfolding decimal_from
decimal_push v [] x = refl
decimal_push v (d ∷ ds) x = decimal_push (v * 10 + (d - 48)) ds x

pub one_more : (s : List ℕ) (k : ℕ) → k < length s → decimal (take (k + 1) s) ≡ decimal (take k s) * 10 + (get_or s k 0 - 48)
one_more s k h = rw (take_more s k 0 h) (decimal_push 0 (take k s) (get_or s k 0))

-- what a digit is
pub record IsDigit (x : ℕ) : Type 0 where
  pub low : 48 ≤ x
  pub high : x ≤ 57

pub is_digit_lem : (x : ℕ) → is_digit x ≡ true → IsDigit x
is_digit_lem x e = by (leb 48 x) (leb x 57) refl refl e
  where
    by : (a b : Bool) → leb 48 x ≡ a → leb x 57 ≡ b → (a && b) ≡ true → IsDigit x
    by true true p q e = record { low = leb-true 48 x p; high = leb-true x 57 q }
    by true false p q e = impossible (cc)
    by false b p q e = impossible (cc)

pub below_more : (k v x : ℕ) → v < 10 ^ k → x < 10 → v * 10 + x < 10 ^ (k + 1)
below_more k v x h l = rw (add-one k, pow-suc) (omega arith)

-- at most nine digits write a number below 10^9
pub nine : (k v : ℕ) → k ≤ 9 → v < 10 ^ k → v < 10 ^ 9
nine k v h l = lt_of_lt_of_le l (pow-le-pow_right {n = 10} (omega arith) h)
