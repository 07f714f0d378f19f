-- The answer, case by case: a file is refused, the list is too short, or the entries are counted; and the list afterwards. Assumes nothing.
use Prim.Native.Nat.{ℕ, ◌*◌, ◌<◌, ◌≤◌}
use mathlib.Core.Path.{◌≡◌, refl, ap, ap₂, sym, ◌∙◌}
use mathlib.Core.Bool.{Bool, true, false, cond, ◌&&◌, ◌||◌, true≢false}
use mathlib.Core.List.{List, [], ◌∷◌, ◌++◌, append_assoc}
use native.Mathlib.Omega.{arith}
use lib.Dec.{ltb}
use lib.ListN.{length}
use borrow.Author.Tests.{lt-ltb, le-ltb, ltb-false}
use Rattle.bigendian.specs.Buffers.{at_front}
use Rattle.instants.specs.Refusals.{Case, case, refused_or, check}
use Rattle.instants.specs.declared.refusal.Refusal.{Refusal}
use Rattle.instants.proofs.Accepted.{both_false}
use Rattle.instants.proofs.Impossible.{impossible}
use Rattle.instants.proofs.FirstRefusal.{NoneApplies, none_both, first_none, passed_none, refused_append, refused_checked, refused_alike, none_answered, answered_none}
use Rattle.record.specs.declared.Record.{Record}
use Rattle.files.specs.Files.{file_cases, wrong_length}
use Rattle.files.specs.Inner.{sound}
use Rattle.files.proofs.Refused.{none_applies, applies_none, file_is, file_short, records_few}
use Rattle.compare.specs.declared.Entry.{Entry}
use Rattle.compare.specs.Walk.{walk}
use Rattle.compare.specs.Compare.{records_of, entries_of, entry_length, list_bytes, compare_cases, compare_of, list_after}
use Rattle.compare.specs.Inner.{records_from, count_of, files_refusal, Fits}
use Rattle.compare.proofs.Walks.{walk_few}
use Rattle.std.specs.Prelude.{Result, Ok, Err, Some, None, ⊤}
use Rattle.instants.specs.declared.refusal.Refusal.TheVariants.{BufferShort}

-- ---- two files

module _ (s t : List ℕ) where
  -- the refusal of the list, behind those of the files
  room : ℕ → List Case
  room n = case BufferShort (ltb n (entry_length * length (entries_of s t))) ∷ []

  -- without a refusal of either none applies
  pub files_unrefused : files_refusal s t ≡ 0 → NoneApplies (file_cases s) × NoneApplies (file_cases t)
  unfolding files_refusal
  files_unrefused z = none_both (file_cases s) (file_cases t) (first_none (file_cases s ++ file_cases t) z)

  -- with one the comparison has it
  pub refused_files : (r : Refusal) (n : ℕ) → check (file_cases s ++ file_cases t) ≡ Err r → Err r ≡ compare_of s t n
  unfolding compare_of room
  refused_files r n e =
      sym (ap (λ (cs : List Case). refused_or Err cs (Ok (length (entries_of s t)))) (sym (append_assoc (file_cases s) (file_cases t) (room n)))
      ∙ (refused_append Err (file_cases s ++ file_cases t) (room n) _ ∙ refused_checked Err (file_cases s ++ file_cases t) _ r e))

  -- the second file is tested where the first is one
  pub first_refuses : (r : Refusal) → check (file_cases s) ≡ Err r → check (file_cases s ++ file_cases t) ≡ Err r
  first_refuses r e = refused_append Err (file_cases s) (file_cases t) (Ok tt) ∙ refused_checked Err (file_cases s) (check (file_cases t)) r e

  pub second_tested : (u : ⊤) → check (file_cases s) ≡ Ok u → check (file_cases s ++ file_cases t) ≡ check (file_cases t)
  second_tested u e = refused_append Err (file_cases s) (file_cases t) (Ok tt) ∙ none_answered Err (file_cases s) (check (file_cases t)) (passed_none (file_cases s) u e)

  -- a wrong length has a refusal, and so has a file that is not sound
  pub length_refused : (wrong_length (length s) || wrong_length (length t)) ≡ true → files_refusal s t ≡ 0 → ⊥
  length_refused e z =
      let n = files_unrefused z in
      true≢false (sym e ∙ ap₂ ◌||◌ (applies_none s n.0).0 (applies_none t n.1).0)

  pub count_refused : count_of s t ≡ None → files_refusal s t ≡ 0 → ⊥
  unfolding count_of
  count_refused e z =
      let n = files_unrefused z in
      let k = ap₂ (λ (a b : Bool). cond (a && b) (Some (length (walk (records_from s 0) (records_from t 0)))) None) (applies_none s n.0).1 (applies_none t n.1).1 in
      let v : Some (length (walk (records_from s 0) (records_from t 0))) ≡ None = sym k ∙ e in
      impossible (cc)

  -- the entries of two files that are not refused
  module _ (a : NoneApplies (file_cases s)) (b : NoneApplies (file_cases t)) where
    pub entries_are : entries_of s t ≡ walk (records_from s 0) (records_from t 0)
    unfolding entries_of
    entries_are = ap₂ (λ (f g : Result (List Record) Refusal). walk (records_of f) (records_of g)) (file_is s a) (file_is t b)

    -- at most one for each record
    pub entries_few : length (walk (records_from s 0) (records_from t 0)) ≤ 4368
    entries_few = omega (arith, walk_few (records_from s 0) (records_from t 0), records_few s, records_few t, file_short s a, file_short t b)

    -- so the list decides
    accepted : (n : ℕ) → compare_of s t n ≡ refused_or Err (room n) (Ok (length (entries_of s t)))
    unfolding compare_of room
    accepted n =
        refused_append Err (file_cases s) (file_cases t ++ room n) _
        ∙ (none_answered Err (file_cases s) _ a
        ∙ (refused_append Err (file_cases t) (room n) _ ∙ none_answered Err (file_cases t) _ b))

    pub too_short : (n : ℕ) → n < entry_length * length (walk (records_from s 0) (records_from t 0)) → Err BufferShort ≡ compare_of s t n
    unfolding room
    too_short n h = sym (accepted n ∙ rw (entries_are, lt-ltb n (entry_length * length (walk (records_from s 0) (records_from t 0))) h) refl)

    pub long_enough : (n : ℕ) → entry_length * length (walk (records_from s 0) (records_from t 0)) ≤ n → Ok (length (walk (records_from s 0) (records_from t 0))) ≡ compare_of s t n
    unfolding room
    long_enough n h = sym (accepted n ∙ rw (entries_are, le-ltb n (entry_length * length (walk (records_from s 0) (records_from t 0))) h) refl)

  -- ---- the code's count

  -- entries that were counted in files of the right lengths: neither is refused, and they are all
  pub record Counted (k : ℕ) : Type 0 where
    pub first : NoneApplies (file_cases s)
    pub second : NoneApplies (file_cases t)
    pub is : k ≡ length (walk (records_from s 0) (records_from t 0))
    pub few : k ≤ 4368

  pub counted : (k : ℕ) → (wrong_length (length s) || wrong_length (length t)) ≡ false → count_of s t ≡ Some k → Counted k
  unfolding count_of
  counted k w e = by (sound s) refl (sound t) refl e
    where
      lengths : (wrong_length (length s) ≡ false) × (wrong_length (length t) ≡ false)
      lengths = both_false (wrong_length (length s)) (wrong_length (length t)) w

      all : sound s ≡ true → sound t ≡ true → k ≡ length (walk (records_from s 0) (records_from t 0)) → Counted k
      all p q i =
          let a = none_applies s lengths.0 p in
          let b = none_applies t lengths.1 q in
          record { first = a; second = b; is = i; few = omega (arith, i, entries_few a b) }

      by : (x : Bool) → sound s ≡ x → (y : Bool) → sound t ≡ y → cond (x && y) (Some (length (walk (records_from s 0) (records_from t 0)))) None ≡ Some k → Counted k
      by true p true q e = all p q (cc)
      by true p false q e = impossible (cc)
      by false p y q e = impossible (cc)

  -- ---- an answer that was given

  -- a test of the same cases
  pub test_refused : (n : ℕ) (r : Refusal) → compare_of s t n ≡ Err r → check (compare_cases s t n) ≡ Err r
  unfolding compare_of
  test_refused n r e = refused_alike Err Err (compare_cases s t n) _ _ r (λ m p. cc) (λ p. impossible (cc)) e

  module _ (n k : ℕ) (e : compare_of s t n ≡ Ok k) where
    none : NoneApplies (compare_cases s t n) × (◌≡◌ {A = Result ℕ Refusal} (Ok (length (entries_of s t))) (Ok k))
    unfolding compare_of
    none = answered_none Err (compare_cases s t n) (Ok (length (entries_of s t))) (Ok k) (λ m p. impossible (cc)) e

    pub test_passed : check (compare_cases s t n) ≡ Ok tt
    test_passed = none_answered Err (compare_cases s t n) (Ok tt) none.0

    rest : NoneApplies (file_cases s) × NoneApplies (file_cases t ++ case BufferShort (ltb n (entry_length * length (entries_of s t))) ∷ [])
    rest = none_both (file_cases s) _ none.0

    pub given_first : NoneApplies (file_cases s)
    given_first = rest.0

    pub given_second : NoneApplies (file_cases t)
    given_second = (none_both (file_cases t) (case BufferShort (ltb n (entry_length * length (entries_of s t))) ∷ []) rest.1).0

    pub given_room : entry_length * length (entries_of s t) ≤ n
    given_room =
        let r = (none_both (file_cases t) (case BufferShort (ltb n (entry_length * length (entries_of s t))) ∷ []) rest.1).1 in
        ltb-false n (entry_length * length (entries_of s t)) r.0

    pub given_number : length (entries_of s t) ≡ k
    given_number = let g : ◌≡◌ {A = Result ℕ Refusal} (Ok (length (entries_of s t))) (Ok k) = none.1 in cc

    pub given_few : k ≤ 4368
    given_few = omega (arith, given_number, ap length (entries_are given_first given_second), entries_few given_first given_second)

    -- what is asked where the list is written
    pub given_fits : Fits s t (entry_length * k) n
    given_fits = record {
      first = (applies_none s given_first).1;
      second = (applies_none t given_second).1;
      all = ap (λ (x : ℕ). entry_length * x) (sym given_number ∙ ap length (entries_are given_first given_second));
      room = omega (arith, given_room, given_number);
    }

-- ---- the list afterwards

module _ (s t old : List ℕ) where
  pub list_given : (k : ℕ) → compare_of s t (length old) ≡ Ok k → list_after s t old ≡ at_front (list_bytes (walk (records_from s 0) (records_from t 0))) old
  unfolding list_after
  list_given k e =
      none_answered (λ _. old) (compare_cases s t (length old)) _ (none s t (length old) k e).0
      ∙ ap (λ (es : List Entry). at_front (list_bytes es) old) (entries_are s t (given_first s t _ k e) (given_second s t _ k e))

  pub list_refused : (r : Refusal) → compare_of s t (length old) ≡ Err r → list_after s t old ≡ old
  unfolding list_after compare_of
  list_refused r e = refused_alike Err (λ _. old) (compare_cases s t (length old)) _ _ r (λ m p. cc) (λ p. impossible (cc)) e
