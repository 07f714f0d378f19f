-- Which refusal a file has: none exactly when its length is right and it is sound. One pass over it finds the first record that does not read, and whether
-- the instants rise. Assumes nothing.
use Prim.Native.Nat.{ℕ, zero, suc, ◌*◌, ◌/◌, ◌%◌, ◌≤◌, ◌<◌}
use mathlib.Core.Path.{◌≡◌, refl, ap, ap₂, sym, ◌∙◌}
use mathlib.Core.Bool.{Bool, true, false, not, ◌&&◌, cond, true≢false}
use mathlib.Core.List.{List, [], ◌∷◌, ◌++◌}
use native.Mathlib.Omega.{arith}
use lib.Dec.{eqb, ltb}
use lib.ListN.{length, take, drop}
use Rattle.std.proofs.Common.{take_at, drop_at, length-append}
use Rattle.instants.specs.Refusals.{case, refused_or, first_refusal, check}
use borrow.Author.Tests.{ltb-false}
use Rattle.instants.proofs.Accepted.{both_false}
use Rattle.instants.proofs.FirstRefusal.{NoneApplies, none_both, none_append, handed_on, refused_append, none_answered}
use Rattle.record.specs.declared.Record.{Record}
use Rattle.record.specs.Format.{record_length}
use Rattle.record.specs.Records.{read_of}
use Rattle.record.proofs.Kept.{read_front}
use Rattle.files.specs.Files.{most_bytes, answers, answers_in, records_among, when, starts_after, rises, wrong_length, reading_cases, order_cases, file_cases, file_of, file_refusal_of}
use Rattle.files.specs.Inner.{sound_after, sound}
use Rattle.files.proofs.Answers.{answers_step, answers_end}
use Rattle.files.proofs.Places.{after_zero}
use Rattle.std.specs.Prelude.{Result, ⊤, Ok, Err}
use Rattle.instants.specs.declared.refusal.Refusal.{Refusal}
use Rattle.instants.specs.declared.refusal.Refusal.TheVariants.{FileLength, FileOrder}

-- ---- sound answers

-- where every answer is a record, they are sound if the records rise
none_sound : (t : ℕ) (xs : List (Result Record Refusal)) → NoneApplies (reading_cases xs) → sound_after t xs ≡ (starts_after t (records_among xs) && rises (records_among xs))
none_sound t [] h = refl
none_sound t (Err n ∷ xs) h = absurd (true≢false h.0)
none_sound t (Ok r ∷ xs) h = ap (λ (b : Bool). ltb t (when r) && b) (none_sound (when r) xs h)

-- and where they are sound, every answer is a record
sound_none : (t : ℕ) (xs : List (Result Record Refusal)) → sound_after t xs ≡ true → NoneApplies (reading_cases xs)
sound_none t [] e = tt
sound_none t (Err n ∷ xs) e = absurd (true≢false (sym e))
sound_none t (Ok r ∷ xs) e = by (ltb t (when r)) e (sound_none (when r) xs)
  where
    by : (b : Bool) → (b && sound_after (when r) xs) ≡ true → (sound_after (when r) xs ≡ true → NoneApplies (reading_cases xs)) → NoneApplies (reading_cases xs)
    by true e f = f e
    by false e f = absurd (true≢false (sym e))

-- the first record is after 0
starts_after_lem : (rs : List Record) → starts_after 0 rs ≡ true
starts_after_lem [] = refl
starts_after_lem (r ∷ rs) = after_zero r

risen : (xs : List (Result Record Refusal)) → NoneApplies (reading_cases xs) → sound_after 0 xs ≡ rises (records_among xs)
risen xs h = none_sound 0 xs h ∙ ap (λ (b : Bool). b && rises (records_among xs)) (starts_after_lem (records_among xs))

-- ---- the file

-- its refusal is that of the first case that applies
pub file_refusal : (s : List ℕ) → file_refusal_of (file_of s) ≡ first_refusal (file_cases s)
unfolding file_of
file_refusal s = handed_on Err file_refusal_of (λ n. refl) (file_cases s) _

module _ (s : List ℕ) where
  module _ (h : wrong_length (length s) ≡ false) where
    -- a sound file of the right length has no refusal
    pub none_applies : sound s ≡ true → NoneApplies (file_cases s)
    unfolding sound file_cases
    none_applies e =
        let n = sound_none 0 (answers_in s) e in
        (h, none_append (reading_cases (answers_in s)) (order_cases (records_among (answers_in s))) n (ap not (sym (risen (answers_in s) n) ∙ e), tt))

  -- and one without a refusal is such a file
  pub applies_none : NoneApplies (file_cases s) → (wrong_length (length s) ≡ false) × (sound s ≡ true)
  unfolding file_cases sound
  applies_none h =
      let b = none_both (reading_cases (answers_in s)) (order_cases (records_among (answers_in s))) h.1 in
      (h.0, risen (answers_in s) b.0 ∙ right (rises (records_among (answers_in s))) b.1.0)
    where
      right : (b : Bool) → not b ≡ false → b ≡ true
      right true e = refl
      right false e = absurd (true≢false e)

-- ---- one pass over a file

-- what is left to decide behind a record of the moment t, where the instants have risen so far or have not
abbrev pub left : Bool → ℕ → List (Result Record Refusal) → Result ⊤ Refusal
left b t [] = cond b (Ok tt) (Err FileOrder)
left b t (Ok r ∷ xs) = left (b && ltb t (when r)) (when r) xs
left b t (Err n ∷ xs) = Err n

left_is : (b : Bool) (t : ℕ) (xs : List (Result Record Refusal))
    → left b t xs ≡ refused_or Err (reading_cases xs) (cond (b && (starts_after t (records_among xs) && rises (records_among xs))) (Ok tt) (Err FileOrder))
left_is true t [] = refl
left_is false t [] = refl
left_is b t (Err n ∷ xs) = refl
left_is true t (Ok r ∷ xs) = left_is (ltb t (when r)) (when r) xs
left_is false t (Ok r ∷ xs) = left_is false (when r) xs

ordered : (b : Bool) → ◌≡◌ {A = Result ⊤ Refusal} (cond b (Ok tt) (Err FileOrder)) (check (case FileOrder (not b) ∷ []))
ordered true = refl
ordered false = refl

module _ (s : List ℕ) where
  pub length_refused : wrong_length (length s) ≡ true → Err FileLength ≡ check (file_cases s)
  unfolding file_cases
  length_refused e = rw e refl

  -- at the front of a file
  pub left_all : wrong_length (length s) ≡ false → check (file_cases s) ≡ left true 0 (answers_in s)
  unfolding file_cases
  left_all h =
      let rs : List Record = records_among (answers_in s) in
      rw h (refused_append Err (reading_cases (answers_in s)) (order_cases rs) (Ok tt))
      ∙ (ap (λ (x : Result ⊤ Refusal). refused_or Err (reading_cases (answers_in s)) x)
      (sym (ordered (rises rs)) ∙ ap (λ (b : Bool). cond (b && rises rs) (Ok tt) (Err FileOrder)) (sym (starts_after_lem rs)))
      ∙ sym (left_is true 0 (answers_in s)))

-- one record on: what is left is the bytes x of a record, and what is behind them
module _ (all x rest : List ℕ) (is : all ≡ x ++ rest) (size : length x ≡ record_length) where
  step : answers_in all ≡ read_of x ∷ answers_in rest
  step =
      let e : take record_length all ≡ x = ap (take record_length) is ∙ take_at x rest record_length size in
      let f : drop record_length all ≡ rest = ap (drop record_length) is ∙ drop_at x rest record_length size in
      answers_step all (omega (arith, ap length is, length-append x rest, size))
      ∙ ap₂ (λ (a : Result Record Refusal) (l : List ℕ). a ∷ answers_in l) (sym (read_front all) ∙ ap read_of e) f

  pub left_on : (b : Bool) (t : ℕ) (r : Record) → read_of x ≡ Ok r → left b t (answers_in all) ≡ left (b && ltb t (when r)) (when r) (answers_in rest)
  left_on b t r e = ap (left b t) step ∙ ap (λ (a : Result Record Refusal). left b t (a ∷ answers_in rest)) e

  pub left_refused : (b : Bool) (t : ℕ) (n : Refusal) → read_of x ≡ Err n → left b t (answers_in all) ≡ Err n
  left_refused b t n e = ap (left b t) step ∙ ap (λ (a : Result Record Refusal). left b t (a ∷ answers_in rest)) e

-- nothing is left
module _ (t : ℕ) (rest : List ℕ) (h : length rest < record_length) where
  pub left_ordered : (b : Bool) → b ≡ true → left b t (answers_in rest) ≡ Ok tt
  left_ordered true e = ap (left true t) (answers_end rest h)
  left_ordered false e = absurd (true≢false (sym e))

  pub left_unordered : (b : Bool) → b ≡ false → left b t (answers_in rest) ≡ Err FileOrder
  left_unordered true e = absurd (true≢false e)
  left_unordered false e = ap (left false t) (answers_end rest h)

-- ---- its records

-- a file without a refusal is its records
pub file_is : (s : List ℕ) → NoneApplies (file_cases s) → file_of s ≡ Ok (records_among (answers_in s))
unfolding file_of
file_is s h = none_answered Err (file_cases s) _ h

few_among : (n : ℕ) (s : List ℕ) → length (records_among (answers n s)) ≤ n
few_among zero s = omega arith
few_among (suc n) s = by (read_of s) (few_among n (drop record_length s))
  where
    by : (x : (Result Record Refusal)) → length (records_among (answers n (drop record_length s))) ≤ n → length (records_among (x ∷ answers n (drop record_length s))) ≤ suc n
    by (Ok r) h = omega arith
    by (Err m) h = omega arith

-- at most one for thirty bytes
pub records_few : (s : List ℕ) → record_length * length (records_among (answers_in s)) ≤ length s
unfolding answers_in
records_few s = omega (arith, few_among (length s / record_length) s)

-- and so at most 2184 in all
pub file_short : (s : List ℕ) → NoneApplies (file_cases s) → length s ≤ most_bytes
file_short s h = ltb-false most_bytes (length s) (both_false (not (eqb (length s % record_length) 0)) (ltb most_bytes (length s)) (applies_none s h).0).1
