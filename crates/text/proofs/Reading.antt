-- A numeral is read as its number: its last digit is the remainder by ten, those before it are the numeral of the quotient. Assumes nothing.
use Prim.Native.Nat.{ℕ, zero, suc, ◌+◌, ◌-◌, ◌*◌, ◌/◌, ◌%◌, ◌^◌, ◌≤◌, ◌<◌}
use mathlib.Core.Path.{◌≡◌, refl, ap, sym, ◌∙◌}
use mathlib.Core.Bool.{Bool, true, false}
use mathlib.Core.List.{List, [], ◌∷◌, ◌++◌}
use native.Mathlib.Omega.{arith}
use lib.Dec.{ltb}
use lib.ListN.{length, get_or, get_or-append}
use lib.Seq.{get_or_at}
use borrow.Author.Tests.{ltb-true, ltb-false}
use Rattle.text.specs.Text.{digit, numeral_in, numeral}
use Rattle.text.specs.Claims.{value_from, IsNumeral}
use Rattle.text.proofs.Numerals.{by_digits, in_one, in_more, one_longer, tenth}

value_more : (ds : List ℕ) (v x : ℕ) → value_from v (ds ++ x ∷ []) ≡ value_from v ds * 10 + (x - 48)
unfolding value_from
value_more [] v x = refl
value_more (y ∷ ds) v x = value_more ds (v * 10 + (y - 48)) x

reads_one : (n : ℕ) → n < 10 → IsNumeral (digit n ∷ []) n
unfolding value_from
reads_one n h =
    record {
      least = omega arith;
      digits = λ i l. let e : i ≡ 0 = omega arith in rw e (omega arith, omega arith);
      value = omega arith;
      first = λ e. ap (λ (x : ℕ). x ∷ []) e;
    }

-- a digit behind a numeral that is not 0
reads_more : (ds : List ℕ) (m d : ℕ) → 1 ≤ m → d < 10 → IsNumeral ds m → IsNumeral (ds ++ digit d ∷ []) (m * 10 + d)
unfolding value_from
reads_more ds m d l h p =
    record {
      least = rw one_longer (omega arith);
      digits = λ i b. at i (rw one_longer at b);
      value = value_more ds 0 (digit d) ∙ omega (arith, p.value);
      first = λ e. absurd (not_0 (p.first (sym (get_or-append ds (digit d ∷ []) 0 0 p.least) ∙ e)));
    }
  where
    at : (i : ℕ) → i < suc (length ds) → (48 ≤ get_or (ds ++ digit d ∷ []) i 0) × (get_or (ds ++ digit d ∷ []) i 0 ≤ 57)
    at i b = by (ltb i (length ds)) refl
      where
        by : (t : Bool) → ltb i (length ds) ≡ t → (48 ≤ get_or (ds ++ digit d ∷ []) i 0) × (get_or (ds ++ digit d ∷ []) i 0 ≤ 57)
        by true q = rw (get_or-append ds (digit d ∷ []) 0 i (ltb-true i (length ds) q)) (p.digits i (ltb-true i (length ds) q))
        by false q =
            let e : length ds ≡ i = omega (arith, ltb-false i (length ds) q) in
            rw (get_or_at ds (digit d) [] 0 i e) (omega arith, omega arith)

    not_0 : ds ≡ 48 ∷ [] → ⊥
    not_0 e = let z : value_from 0 ds ≡ 0 = ap (value_from 0) e in omega (arith, z, p.value)

reads : (k n : ℕ) → n < 10 ^ suc k → IsNumeral (numeral_in (suc k) n) n
reads zero n h = rw (in_one 0 n (omega arith)) (reads_one n (omega arith))
reads (suc k) n h =
    let i : IsNumeral (numeral_in (suc k) (n / 10)) (n / 10) = reads k (n / 10) (tenth (suc k) n h) in
    by_digits n
    (λ l. rw (in_one (suc k) n l) (reads_one n l))
    (λ l.
    let e : n / 10 * 10 + n % 10 ≡ n = omega arith in
    rw (in_more (suc k) n l) (rw e at (reads_more (numeral_in (suc k) (n / 10)) (n / 10) (n % 10) (omega arith) (omega arith) i)))

-- PROMISE. The numeral of a number below 10^20 is one or more digits that write it, and no 0 stands before another digit.
pub numeral_reads : (n : ℕ) → n < 10 ^ 20 → IsNumeral (numeral n) n
numeral_reads n h = reads 19 n h
