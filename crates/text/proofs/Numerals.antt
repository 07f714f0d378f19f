-- Decimal numerals, by induction on the most digits: how long one is, and how it comes from the numeral of a tenth. Assumes nothing.
use Prim.Native.Nat.{ℕ, zero, suc, ◌+◌, ◌*◌, ◌/◌, ◌%◌, ◌^◌, ◌≤◌, ◌<◌}
use mathlib.Core.Path.{◌≡◌, refl, ap, sym, ◌∙◌}
use mathlib.Core.Bool.{Bool, true, false}
use mathlib.Core.List.{List, [], ◌∷◌, ◌++◌}
use native.Mathlib.Omega.{arith}
use native.Mathlib.Nat.{pow-suc}
use lib.Dec.{ltb}
use lib.ListN.{length, length-append}
use borrow.Author.Tests.{lt-ltb, le-ltb, ltb-true, ltb-false}
use Rattle.instants.specs.declared.refusal.Refusal.{Refusal}
use Rattle.instants.specs.Refusals.{number}
use Rattle.text.specs.Text.{digit, numeral_in, numeral, refusal_text, refused_text}

-- a number has one digit, or more than one
pub by_digits : {P : Type 0} (n : ℕ) → (n < 10 → P) → (10 ≤ n → P) → P
by_digits {P} n f g = by (ltb n 10) refl
  where
    by : (t : Bool) → ltb n 10 ≡ t → P
    by true p = f (ltb-true n 10 p)
    by false p = g (ltb-false n 10 p)

-- ---- with k digits at most

pub in_one : (k n : ℕ) → n < 10 → numeral_in (suc k) n ≡ digit n ∷ []
unfolding numeral_in
in_one k n h = rw (lt-ltb n 10 h) refl

pub in_more : (k n : ℕ) → 10 ≤ n → numeral_in (suc k) n ≡ numeral_in k (n / 10) ++ digit (n % 10) ∷ []
unfolding numeral_in
in_more k n h = rw (le-ltb n 10 h) refl

-- a digit behind others
pub one_longer : (ds : List ℕ) (x : ℕ) → length (ds ++ x ∷ []) ≡ suc (length ds)
one_longer ds x = length-append ds (x ∷ []) ∙ omega arith

-- a tenth has a digit less
pub tenth : (k n : ℕ) → n < 10 ^ suc k → n / 10 < 10 ^ k
tenth k n h = let g : n < 10 ^ k * 10 = rw pow-suc at h in omega arith

-- more room for digits than there are changes nothing
enough : (k n : ℕ) → n < 10 ^ suc k → numeral_in (suc (suc k)) n ≡ numeral_in (suc k) n
enough zero n h = in_one 1 n (omega arith) ∙ sym (in_one 0 n (omega arith))
enough (suc k) n h =
    let i : numeral_in (suc (suc k)) (n / 10) ≡ numeral_in (suc k) (n / 10) = enough k (n / 10) (tenth (suc k) n h) in
    by_digits n
    (λ l. in_one (suc (suc k)) n l ∙ sym (in_one (suc k) n l))
    (λ l. in_more (suc (suc k)) n l ∙ (ap (λ (ds : List ℕ). ds ++ digit (n % 10) ∷ []) i ∙ sym (in_more (suc k) n l)))

few : (j n k : ℕ) → n < 10 ^ suc k → length (numeral_in j n) ≤ suc k
unfolding numeral_in
few zero n k h = omega arith
few (suc j) n zero h = rw (in_one j n (omega arith)) (omega arith)
few (suc j) n (suc k) h =
    let i : length (numeral_in j (n / 10)) ≤ suc k = few j (n / 10) k (tenth (suc k) n h) in
    by_digits n
    (λ l. rw (in_one j n l) (omega arith))
    (λ l. rw (in_more j n l, one_longer) (omega arith))

most : (k n : ℕ) → length (numeral_in k n) ≤ k
unfolding numeral_in
most zero n = omega arith
most (suc k) n =
    let i : length (numeral_in k (n / 10)) ≤ k = most k (n / 10) in
    by_digits n
    (λ l. rw (in_one k n l) (omega arith))
    (λ l. rw (in_more k n l, one_longer) (omega arith))

-- ---- the numeral of a number

-- a digit by itself, and a digit behind the numeral of a tenth
pub numeral_one : (n : ℕ) → n < 10 → numeral n ≡ digit n ∷ []
numeral_one n h = in_one 19 n h

pub numeral_more : (n : ℕ) → 10 ≤ n → n < 10 ^ 20 → numeral n ≡ numeral (n / 10) ++ digit (n % 10) ∷ []
numeral_more n l h = in_more 19 n l ∙ ap (λ (ds : List ℕ). ds ++ digit (n % 10) ∷ []) (sym (enough 18 (n / 10) (omega arith)))

-- a digit more than a tenth has
pub numeral_longer : (n : ℕ) → 10 ≤ n → n < 10 ^ 20 → length (numeral n) ≡ suc (length (numeral (n / 10)))
numeral_longer n l h = ap length (numeral_more n l h) ∙ one_longer (numeral (n / 10)) (digit (n % 10))

-- A number below 10^(k+1) has k+1 digits at most.
pub numeral_length : (n k : ℕ) → n < 10 ^ suc k → length (numeral n) ≤ suc k
numeral_length n k h = few 20 n k h

-- none has more than twenty
pub numeral_most : (n : ℕ) → length (numeral n) ≤ 20
numeral_most n = most 20 n

-- how many bytes a refusal's text has
pub refusal_length : (n : ℕ) → length (refusal_text n) ≡ length (numeral n) + 9
unfolding refusal_text
refusal_length n = simp length-append (omega arith)

-- twenty-nine at most
pub refusal_most : (n : ℕ) → length (refusal_text n) ≤ 29
refusal_most n = omega (arith, refusal_length n, numeral_most n)

pub refused_most : (r : Refusal) → length (refused_text r) ≤ 29
refused_most r = refusal_most (number r)
