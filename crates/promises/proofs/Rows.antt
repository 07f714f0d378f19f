-- The refusals of rows from the caller, in the figures of specs/AnyInput.antt: the lengths that a table may have, and each number at its place in the
-- bytes. Assumes nothing.
use Prim.Native.Nat.{ℕ, zero, suc, ◌+◌, ◌-◌, ◌*◌, ◌%◌, ◌≤◌, ◌<◌}
use mathlib.Core.Path.{◌≡◌, refl, sym, ◌∙◌, ap, ap₂}
use mathlib.Core.Bool.{Bool, true, false, true≢false, cond, not, ◌&&◌, ◌||◌}
use mathlib.Core.List.{List, ◌∷◌, ◌++◌}
use native.Mathlib.Nat as N
use native.Mathlib.Omega.{arith}
use native.Mathlib.Decide.{dec_le}
use lib.Dec.{ltb, leb, eqb}
use lib.IntN.{ℤ, pos, negsuc, nat_abs}
use lib.ListN.{length, drop}
use lib.Signed.{lt_z}
use borrow.Author.Tests.{ltb-false, leb-true, eqb-true, not-false, lt-ltb, le-ltb, le-leb, eq-eqb}
use Rattle.bigendian.specs.Numbers.{number_at, signed_of}
use Rattle.bigendian.specs.Fields.{field_at}
use Rattle.bigendian.proofs.Numbers.{number_drop}
use Rattle.instants.specs.Refusals as named
use Rattle.instants.specs.Refusals.{number}
use Rattle.promises.specs.Figures.{case, first_refusal}
use Rattle.promises.proofs.Figures as figure
use Rattle.instants.specs.Instants.{instant_cases}
use Rattle.instants.proofs.Accepted.{both_false}
use Rattle.instants.proofs.FirstRefusal.{handed_on}
use Rattle.files.proofs.Records.{both}
use Rattle.rows.specs.declared.Row.{Row}
use Rattle.rows.specs.Table.{row_at, day_out, not_after, number_out, some_below, days_wrong, numbers_wrong, table_cases}
use Rattle.rows.proofs.Accepted.{some_same}
use Rattle.row_bytes.specs.Form.{version_field, version, head_length, row_length, form_length, at_least0, row_in, row_count, table_in, bytes_cases}
use Rattle.row_bytes.proofs.Reading.{table_count, table_at}
use Rattle.nutation.specs.Ours.{nutation_rows_of, nutation_refusal_of}
use Rattle.promises.specs.AnyInput.{table_length, table_rows, table_day, table_Xc, table_Xs, table_uncertainty, beyond, refusal21, refusal22, refusal23, refusal24}
use Rattle.std.specs.Prelude.{Err}
use Rattle.instants.specs.declared.refusal.Refusal.TheVariants.{RowsVersion}

-- ---- the length

-- of the five tests of the definition the last three are one of the figures
module _ (n : ℕ) where
  abbrev other_length : Bool
  other_length = ltb (row_count n) 2 || (ltb 200 (row_count n) || not (eqb n (form_length (row_count n))))

  -- a length of the figures is one of the definition
  table : table_length n ≡ true → other_length ≡ false
  table e =
      let p = both (leb 35 n) (leb n 3203 && eqb (n % 16) 3) e in
      let q = both (leb n 3203) (eqb (n % 16) 3) p.1 in
      let l : 35 ≤ n = leb-true _ _ p.0 in
      let h : n ≤ 3203 = leb-true _ _ q.0 in
      let r : n % 16 ≡ 3 = eqb-true _ _ q.1 in
      rw (le-ltb (row_count n) 2 (omega (arith, l, r)), le-ltb 200 (row_count n) (omega (arith, h, r)), eq-eqb n (form_length (row_count n)) (omega (arith, l, r))) refl

  -- and the other way round
  back : other_length ≡ false → table_length n ≡ true
  back e =
      let p = both_false (ltb (row_count n) 2) _ e in
      let q = both_false (ltb 200 (row_count n)) _ p.1 in
      let l : 2 ≤ row_count n = ltb-false _ _ p.0 in
      let h : row_count n ≤ 200 = ltb-false _ _ q.0 in
      let w : n ≡ form_length (row_count n) = eqb-true _ _ (not-false _ q.1) in
      rw (le-leb 35 n (omega (arith, l, w)), le-leb n 3203 (omega (arith, h, w)), eq-eqb (n % 16) 3 (omega (arith, w))) refl

  lengths : other_length ≡ not (table_length n)
  lengths = by (table_length n) refl
    where
      otherwise : (o : Bool) → other_length ≡ o → table_length n ≡ false → o ≡ true
      otherwise true q e = refl
      otherwise false q e = absurd (true≢false (sym (back q) ∙ e))

      by : (t : Bool) → table_length n ≡ t → other_length ≡ not t
      by true e = table e
      by false e = otherwise other_length refl e

-- five cases of one number are one
five : (a b c d e : Bool) (n x : ℕ) → cond a n (cond b n (cond c n (cond d n (cond e n x)))) ≡ cond (a || (b || (c || (d || e)))) n x
five true b c d e n x = refl
five false true c d e n x = refl
five false false true d e n x = refl
five false false false true e n x = refl
five false false false false e n x = refl

-- ---- a row's numbers, at their places

module _ (s : List ℕ) (i : ℕ) (h : i < table_rows s) where
  -- where it starts
  abbrev at : List ℕ
  at = drop (head_length + row_length * i) s

  is : row_at (table_in s) i ≡ row_in at
  is = table_at s i h

  -- the number k bytes behind
  number_on : (k p : ℕ) → head_length + row_length * i + k ≡ p → number_at at k 4 ≡ number_at s p 4
  number_on k p e = number_drop (head_length + row_length * i) s k 4 ∙ ap (λ (j : ℕ). number_at s j 4) e

  day_is : (row_at (table_in s) i).day ≡ table_day s i
  unfolding row_in
  day_is = ap (λ (r : Row). r.day) is ∙ number_on 0 (3 + 16 * i) (omega arith)

  xc_is : (row_at (table_in s) i).xc ≡ table_Xc s i
  unfolding row_in
  xc_is = ap (λ (r : Row). r.xc) is ∙ ap (signed_of 4) (number_on 4 (7 + 16 * i) (omega arith))

  xs_is : (row_at (table_in s) i).xs ≡ table_Xs s i
  unfolding row_in
  xs_is = ap (λ (r : Row). r.xs) is ∙ ap (signed_of 4) (number_on 8 (11 + 16 * i) (omega arith))

  uncertainty_is : (row_at (table_in s) i).uncertainty ≡ at_least0 (table_uncertainty s i)
  unfolding row_in
  uncertainty_is = ap (λ (r : Row). r.uncertainty) is ∙ ap (λ (n : ℕ). at_least0 (signed_of 4 n)) (number_on 12 (15 + 16 * i) (omega arith))

-- ---- the days

after : (s : List ℕ) (i : ℕ) → i < table_rows s → not_after (table_in s) i ≡ (ltb 0 i && leb (table_day s i) (table_day s (i - 1)))
after s zero h = refl
after s (suc i) h =
    let e : suc i - 1 ≡ i = omega arith in
    rw (lt-ltb 0 (suc i) (omega arith), e) (ap₂ leb (day_is s (suc i) h) (day_is s i (N.le_of_suc-le h)))

days : (s : List ℕ) → days_wrong (table_in s) ≡ (refusal23 s).applies
unfolding days_wrong
days s =
    ap (λ (n : ℕ). some_below n (λ i. day_out (row_at (table_in s) i) || not_after (table_in s) i)) (table_count s)
    ∙ some_same _ _ (table_rows s) (λ i h. ap₂ (λ (n : ℕ) (b : Bool). (ltb n 15020 || ltb 88433 n) || b) (day_is s i h) (after s i h))

-- ---- the numbers

amplitude : (z : ℤ) → ltb 100_000 (nat_abs z) ≡ beyond z
amplitude (pos n) = refl
amplitude (negsuc n) = by (dec_le 100_000 n)
  where
    by : Dec (100_000 ≤ n) → ltb 100_000 (suc n) ≡ (ltb 99_999 n || false)
    by (yes p) = rw (lt-ltb 100_000 (suc n) (omega (arith, p)), lt-ltb 99_999 n p) refl
    by (no p) = rw (le-ltb 100_000 (suc n) (omega (arith, p)), le-ltb 99_999 n (omega (arith, p))) refl

uncertain : (z : ℤ) → (ltb (at_least0 z) 1 || ltb 100_000 (at_least0 z)) ≡ (lt_z z (pos 1) || lt_z (pos 100_000) z)
uncertain (pos n) = refl
uncertain (negsuc n) = refl

numbers : (s : List ℕ) → numbers_wrong (table_in s) ≡ (refusal24 s).applies
unfolding numbers_wrong
numbers s =
    ap (λ (n : ℕ). some_below n (λ i. number_out (row_at (table_in s) i))) (table_count s)
    ∙ some_same _ _ (table_rows s)
    (λ i h.
    rw (xc_is s i h, xs_is s i h, uncertainty_is s i h, amplitude (table_Xc s i), amplitude (table_Xs s i), uncertain (table_uncertainty s i)) refl)

-- ---- all of them

figures : (s : List ℕ) (d : ℤ) (m : ℕ) → named.first_refusal (bytes_cases s ++ instant_cases d m)
    ≡ first_refusal (refusal21 s ∷ refusal22 s ∷ refusal23 s ∷ refusal24 s ∷ figure.figures (instant_cases d m))
unfolding number
figures s d m =
    let n : ℕ = length s in
    let a : Bool = ltb n 3 in
    let b : Bool = not (eqb (number_at s 0 2) n) in
    let behind : ℕ = named.first_refusal (named.case RowsVersion (not (eqb (field_at s version_field) version)) ∷ table_cases (table_in s) ++ instant_cases d m) in
    five a b (ltb (row_count n) 2) (ltb 200 (row_count n)) (not (eqb n (form_length (row_count n)))) 21 behind
    ∙ ap (λ (t : Bool). cond (a || (b || t)) 21 behind) (lengths n)
    ∙ ap₂ (λ (x y : Bool). first_refusal (refusal21 s ∷ refusal22 s ∷ case 23 x ∷ case 24 y ∷ figure.figures (instant_cases d m))) (days s) (numbers s)

pub handed_rows : (s : List ℕ) (d : ℤ) (m : ℕ) → nutation_refusal_of (nutation_rows_of s d m) ≡ named.first_refusal (bytes_cases s ++ instant_cases d m)
unfolding nutation_rows_of
handed_rows s d m = handed_on Err nutation_refusal_of (λ n. refl) (bytes_cases s ++ instant_cases d m) _

pub rows_offsets : (s : List ℕ) (d : ℤ) (m : ℕ) → nutation_refusal_of (nutation_rows_of s d m) ≡ first_refusal (refusal21 s ∷ refusal22 s ∷ refusal23 s ∷ refusal24 s ∷ figure.figures (instant_cases d m))
rows_offsets s d m = handed_rows s d m ∙ figures s d m
