-- What is promised of an answer: which refusal it has, what stands beside one; and without one its number and its list. And what is promised of the
-- entries of two files, from what the walk has. Assumes nothing.
use Prim.Native.Nat.{ℕ, ◌*◌, ◌≤◌}
use mathlib.Core.Path.{◌≡◌, refl, ap, ap₂, sym, ◌∙◌}
use mathlib.Core.Bool.{Bool, true, false, cond, ◌&&◌, ◌||◌}
use mathlib.Core.List.{List, [], ◌∷◌, ◌++◌, map}
use native.Mathlib.Omega.{arith}
use lib.Dec.{ltb}
use lib.IntN.{ℤ, pos, ◌-ℤ◌}
use lib.ListN.{length, drop}
use lib.Signed.{lt_z, le_z}
use Rattle.bigendian.proofs.Buffers.{front_is}
use Rattle.instants.specs.Refusals.{first_refusal}
use Rattle.instants.proofs.Impossible.{impossible}
use Rattle.instants.proofs.FirstRefusal.{none_both, first_none, handed_on, none_answered, refused_first, refused_same}
use Rattle.record.specs.declared.Record.{Record}
use Rattle.files.specs.Files.{answers_in, records_among, file_of, file_cases, file_refusal_of}
use Rattle.files.proofs.Refused.{file_refusal, file_is}
use Rattle.files.specs.Claims.{Each, AcceptedRecord}
use Rattle.files.proofs.Records.{both, file_none, file_rises, file_recorded}
use Rattle.compare.specs.declared.Entry.{Entry}
use Rattle.compare.specs.Walk.{side_number, entry, equal, same_numbers, walk}
use Rattle.compare.specs.Compare.{records_of, entries_of, entry_length, list_bytes, compare_cases, compare_of, list_after, entries_number_of, compare_refusal_of}
use Rattle.compare.specs.Inner.{records_from}
use Rattle.compare.specs.Claims.{There, Nowhere, one_instant, record_of_instant, entry_of_instant, exchanged, listed}
use Rattle.compare.proofs.Numbers.{equal_same, equal_is}
use Rattle.compare.proofs.Entries.{list_length}
use Rattle.compare.proofs.Answers.{entries_few, long_enough}
use Rattle.compare.proofs.AtInstants.{Rising, rule_of, one_is, listed_at}
use Rattle.compare.proofs.Exchanges.{walk_exchanged, walk_same, walk_empty}
use Rattle.compare.proofs.Rises.{walk_in_order, each_found}
use Rattle.compare.proofs.ReadsBack.{walk_reads_back}
use Rattle.std.specs.Prelude.{Result, Ok, Err}
use Rattle.instants.specs.declared.refusal.Refusal.{Refusal}

-- ---- the refusal, and what stands beside it

-- PROMISE. The refusal is the first of the list that applies.
pub compare_refusal : (s t : List ℕ) (n : ℕ) → compare_refusal_of (compare_of s t n) ≡ first_refusal (compare_cases s t n)
unfolding compare_of
compare_refusal s t n = handed_on Err compare_refusal_of (λ k. refl) (compare_cases s t n) _

-- PROMISE. Beside a refusal the number of entries is 0.
pub compare_zeroed : (s t : List ℕ) (n : ℕ) → (compare_refusal_of (compare_of s t n) ≡ 0 → ⊥) → entries_number_of (compare_of s t n) ≡ 0
unfolding compare_of
compare_zeroed s t n h = ap entries_number_of (refused_first Err (compare_cases s t n) _ (λ z. h (compare_refusal s t n ∙ z))).refused

-- PROMISE. And the list is as it was.
pub compare_keeps : (s t list : List ℕ) → (compare_refusal_of (compare_of s t (length list)) ≡ 0 → ⊥) → list_after s t list ≡ list
unfolding list_after
compare_keeps s t list h = refused_same list (compare_cases s t (length list)) _ (λ z. h (compare_refusal s t (length list) ∙ z))

-- ---- an answer

-- without a refusal no case applies, and there is a number
answered : (s t : List ℕ) (n : ℕ) → compare_refusal_of (compare_of s t n) ≡ 0 → compare_of s t n ≡ Ok (length (entries_of s t))
unfolding compare_of
answered s t n z = none_answered Err (compare_cases s t n) _ (first_none _ (sym (compare_refusal s t n) ∙ z))

-- PROMISE. Without a refusal the number is that of the entries.
pub compare_number : (s t : List ℕ) (n : ℕ) → compare_refusal_of (compare_of s t n) ≡ 0 → entries_number_of (compare_of s t n) ≡ length (entries_of s t)
compare_number s t n z = ap entries_number_of (answered s t n z)

-- PROMISE. And the list has the entries at its front, and behind them what was there.
pub compare_list : (s t list : List ℕ) → compare_refusal_of (compare_of s t (length list)) ≡ 0
    → list_after s t list ≡ list_bytes (entries_of s t) ++ drop (entry_length * length (entries_of s t)) list
unfolding list_after
compare_list s t list z =
    none_answered (λ _. list) (compare_cases s t (length list)) _ (first_none _ (sym (compare_refusal s t (length list)) ∙ z))
    ∙ front_is (list_bytes (entries_of s t)) list _ (list_length (entries_of s t))

-- ---- sides

-- PROMISE. The entries that are written with 1, 2 and 3 have sides of these numbers.
pub sides_numbered : (d : ℤ) (m : ℕ) (x y z : ℤ) → (side_number (entry 1 d m x y z).side ≡ 1) × (side_number (entry 2 d m x y z).side ≡ 2) × (side_number (entry 3 d m x y z).side ≡ 3)
sides_numbered d m x y z = (refl, refl, refl)

-- ---- records

-- a record that is found at an instant is of it
found_instant : (d : ℤ) (m : ℕ) (rs : List Record) (r : Record) → record_of_instant d m rs ≡ There r → (d ≡ r.day) × (m ≡ r.micros)
found_instant d m [] r e = impossible (cc)
found_instant d m (p ∷ rs) r e = by (one_instant d m p.day p.micros) refl e (found_instant d m rs r)
  where
    by : (b : Bool) → one_instant d m p.day p.micros ≡ b → cond b (There p) (record_of_instant d m rs) ≡ There r
        → (record_of_instant d m rs ≡ There r → (d ≡ r.day) × (m ≡ r.micros)) → (d ≡ r.day) × (m ≡ r.micros)
    by true o e f = let q : p ≡ r = cc in rw q at (one_is d m p.day p.micros o)
    by false o e f = f e

all_equal : (r q : Record) → r.ut1 ≡ q.ut1 → r.lod ≡ q.lod → r.rate ≡ q.rate → same_numbers r q ≡ true
all_equal r q u v w =
    ap₂ ◌&&◌ (ap₂ ◌&&◌ (ap (equal r.ut1) (sym u) ∙ equal_same r.ut1) (ap (equal r.lod) (sym v) ∙ equal_same r.lod)) (ap (equal r.rate) (sym w) ∙ equal_same r.rate)

some_other : (r q : Record) → ((r.ut1 ≡ q.ut1) × (r.lod ≡ q.lod) × (r.rate ≡ q.rate) → ⊥) → same_numbers r q ≡ false
some_other r q n = by (same_numbers r q) refl
  where
    by : (b : Bool) → same_numbers r q ≡ b → b ≡ false
    by false e = refl
    by true e =
        let b = both (equal r.ut1 q.ut1 && equal r.lod q.lod) (equal r.rate q.rate) e in
        let c = both (equal r.ut1 q.ut1) (equal r.lod q.lod) b.0 in
        absurd (n (equal_is _ _ c.0, equal_is _ _ c.1, equal_is _ _ b.1))

-- ---- two files

-- what a file has, and nothing beside a refusal
rising_of : (s : List ℕ) (rs : List Record) → file_of s ≡ Ok rs → Rising rs
rising_of s rs e = record { order = file_rises s rs e; accepted = (file_recorded s rs e).accepted }

accepted_of : (s : List ℕ) → Each AcceptedRecord (records_of (file_of s))
accepted_of s = by (file_of s) refl
  where
    by : (f : Result (List Record) Refusal) → file_of s ≡ f → Each AcceptedRecord (records_of f)
    by (Ok rs) e = (file_recorded s rs e).accepted
    by (Err n) e = tt

-- PROMISE. Exchanging the files negates every difference and exchanges the sides, entry by entry.
pub entries_exchanged : (s t : List ℕ) → entries_of t s ≡ map exchanged (entries_of s t)
unfolding entries_of
entries_exchanged s t = walk_exchanged (records_of (file_of s)) (records_of (file_of t)) (accepted_of s) (accepted_of t)

-- PROMISE. Of a file and itself nothing is listed.
pub entries_same : (s : List ℕ) → entries_of s s ≡ []
unfolding entries_of
entries_same s = walk_same (records_of (file_of s))

-- PROMISE. A file and itself are answered with no entry, whatever the list's room.
pub same_compared : (s : List ℕ) (n : ℕ) → file_refusal_of (file_of s) ≡ 0 → compare_of s s n ≡ Ok 0
same_compared s n z =
    let a = first_none (file_cases s) (sym (file_refusal s) ∙ z) in
    let e : length (walk (records_from s 0) (records_from s 0)) ≡ 0 = ap length (walk_same (records_from s 0)) in
    sym (long_enough s s a a n (omega (arith, e))) ∙ ap Ok e

-- PROMISE. What is answered without a refusal are two files.
pub compared_files : (s t : List ℕ) (n : ℕ) → compare_refusal_of (compare_of s t n) ≡ 0
    → (file_of s ≡ Ok (records_among (answers_in s))) × (file_of t ≡ Ok (records_among (answers_in t)))
compared_files s t n z =
    let c = none_both (file_cases s) _ (first_none _ (sym (compare_refusal s t n) ∙ z)) in
    (file_is s c.0, file_is t (none_both (file_cases t) _ c.1).0)

module _ (s t : List ℕ) (rs qs : List Record) (a : file_of s ≡ Ok rs) (b : file_of t ≡ Ok qs) where
  -- PROMISE. The entries are those of the walk over the records.
  pub entries_walked : entries_of s t ≡ walk rs qs
  unfolding entries_of
  entries_walked = ap₂ (λ (f g : Result (List Record) Refusal). walk (records_of f) (records_of g)) a b

  -- PROMISE. Files of which nothing is listed have the same records.
  pub entries_empty : entries_of s t ≡ [] → rs ≡ qs
  entries_empty e = walk_empty rs qs (rising_of s rs a).accepted (rising_of t qs b).accepted (sym entries_walked ∙ e)

  -- PROMISE. The entries are in the order of their instants.
  pub entries_in_order : (k : ℕ) (e f : Entry) (more : List Entry) → drop k (entries_of s t) ≡ e ∷ f ∷ more
      → (lt_z e.day f.day || (le_z e.day f.day && ltb e.micros f.micros)) ≡ true
  entries_in_order k e f more p = walk_in_order rs qs (rising_of s rs a) (rising_of t qs b) k e f more (ap (drop k) (sym entries_walked) ∙ p)

  -- PROMISE. Each entry is the one that is found at its instant.
  pub entries_found : (k : ℕ) (e : Entry) (more : List Entry) → drop k (entries_of s t) ≡ e ∷ more → entry_of_instant e.day e.micros (entries_of s t) ≡ There e
  entries_found k e more p =
      ap (entry_of_instant e.day e.micros) entries_walked ∙ each_found rs qs (rising_of s rs a) (rising_of t qs b) k e more (ap (drop k) (sym entries_walked) ∙ p)

  -- PROMISE. They read back from the bytes of the list, whatever is behind them.
  pub entries_read_back : (l : List ℕ) → listed (length (entries_of s t)) (list_bytes (entries_of s t) ++ l) ≡ entries_of s t
  entries_read_back l =
      let f = file_recorded s rs a in
      let g = file_recorded t qs b in
      rw entries_walked (walk_reads_back rs qs f.accepted g.accepted f.fitting g.fitting l)

  -- PROMISE. A list of 161,616 bytes holds every answer.
  pub entries_room : (n : ℕ) → 161616 ≤ n → compare_refusal_of (compare_of s t n) ≡ 0
  entries_room n h =
      let c = file_none s rs a in
      let d = file_none t qs b in
      ap compare_refusal_of (sym (long_enough s t c d n (omega (arith, entries_few s t c d, h))))

  -- ---- at an instant

  module _ (d : ℤ) (m : ℕ) where
    ruled : entry_of_instant d m (entries_of s t) ≡ rule_of (record_of_instant d m rs) (record_of_instant d m qs)
    ruled = ap (entry_of_instant d m) entries_walked ∙ listed_at d m rs qs (rising_of s rs a) (rising_of t qs b)

    -- PROMISE. What neither file has is not listed.
    pub listed_neither : record_of_instant d m rs ≡ Nowhere → record_of_instant d m qs ≡ Nowhere → entry_of_instant d m (entries_of s t) ≡ Nowhere
    listed_neither x y = ruled ∙ ap₂ rule_of x y

    -- PROMISE. What the first file alone has is listed with side 1 and zeros.
    pub listed_first : (r : Record) → record_of_instant d m rs ≡ There r → record_of_instant d m qs ≡ Nowhere
        → entry_of_instant d m (entries_of s t) ≡ There (entry 1 d m (pos 0) (pos 0) (pos 0))
    listed_first r x y =
        let i = found_instant d m rs r x in
        ruled ∙ (ap₂ rule_of x y ∙ ap₂ (λ (e : ℤ) (n : ℕ). There (entry 1 e n (pos 0) (pos 0) (pos 0))) (sym i.0) (sym i.1))

    -- PROMISE. What the second alone has, with side 2.
    pub listed_second : (q : Record) → record_of_instant d m rs ≡ Nowhere → record_of_instant d m qs ≡ There q
        → entry_of_instant d m (entries_of s t) ≡ There (entry 2 d m (pos 0) (pos 0) (pos 0))
    listed_second q x y =
        let i = found_instant d m qs q y in
        ruled ∙ (ap₂ rule_of x y ∙ ap₂ (λ (e : ℤ) (n : ℕ). There (entry 2 e n (pos 0) (pos 0) (pos 0))) (sym i.0) (sym i.1))

    module _ (r q : Record) (x : record_of_instant d m rs ≡ There r) (y : record_of_instant d m qs ≡ There q) where
      -- PROMISE. What both have with equal numbers is not listed.
      pub listed_equal : r.ut1 ≡ q.ut1 → r.lod ≡ q.lod → r.rate ≡ q.rate → entry_of_instant d m (entries_of s t) ≡ Nowhere
      listed_equal u v w = ruled ∙ (ap₂ rule_of x y ∙ rw (all_equal r q u v w) refl)

      -- PROMISE. What both have with other numbers is listed with side 3 and the differences, second minus first.
      pub listed_changed : ((r.ut1 ≡ q.ut1) × (r.lod ≡ q.lod) × (r.rate ≡ q.rate) → ⊥)
          → entry_of_instant d m (entries_of s t) ≡ There (entry 3 d m (q.ut1 -ℤ r.ut1) (q.lod -ℤ r.lod) (q.rate -ℤ r.rate))
      listed_changed n =
          let i = found_instant d m rs r x in
          ruled
          ∙ (ap₂ rule_of x y
          ∙ (rw (some_other r q n) refl
          ∙ ap₂ (λ (e : ℤ) (k : ℕ). There (entry 3 e k (q.ut1 -ℤ r.ut1) (q.lod -ℤ r.lod) (q.rate -ℤ r.rate))) (sym i.0) (sym i.1)))
