-- What is promised of an answer: which refusal it has, what stands beside one; and without one the numbers and the buffers of the walk. What is written are
-- whole records, and a list that reads back. Assumes nothing.
use Prim.Native.Nat.{ℕ, zero, suc, ◌+◌, ◌*◌, ◌^◌, ◌<◌, ◌≤◌}
use mathlib.Core.Path.{◌≡◌, refl, ap, ap₂, sym, ◌∙◌}
use mathlib.Core.Bool.{true}
use mathlib.Core.List.{List, [], ◌∷◌, ◌++◌, append-nil}
use native.Mathlib.Omega.{arith}
use native.Mathlib.Nat.{mod-eq_of_lt}
use lib.ListN.{length, take, drop, length-drop}
use lib.Seq.{length-take-le, take_at, drop-append-add}
use Rattle.bigendian.specs.Numbers.{bytes_of}
use Rattle.bigendian.specs.Buffers.{at_front}
use Rattle.bigendian.proofs.Numbers.{number_bytes}
use Rattle.bigendian.proofs.Buffers.{front_is}
use Rattle.instants.specs.Refusals.{first_refusal}
use Rattle.instants.proofs.FirstRefusal.{handed_on, none_answered, refused_first, refused_same, first_none}
use Rattle.record.specs.Format.{record_length}
use Rattle.record.specs.Records.{read_of, is_record}
use Rattle.record.proofs.Kept.{read_front}
use Rattle.rescue.specs.Walk.{range, walk, has_record}
use Rattle.rescue.specs.declared.Range.{Range}
use Rattle.rescue.specs.Rescue.{most_bytes, entry_length, kept_count, ranges_in, passed_count, counts_of, records_at, kept_bytes, list_bytes, rescue_cases, rescue_of, records_after, list_after, kept_of, ranges_number_of, passed_of, rescue_refusal_of}
use Rattle.rescue.specs.Claims.{Each, listed, WholeRecords}
use Rattle.rescue.proofs.Entries.{list_length}
use Rattle.rescue.proofs.Ranges.{Within, ranges_within, ranges_few}
use Rattle.rescue.proofs.Covers.{kept_read, kept_within}
use Rattle.rescue.proofs.Rounds.{kept_few, kept_length}
use Rattle.std.specs.Prelude.{Ok, Err}

-- ---- the refusal, and what stands beside it

-- PROMISE. The refusal is the first of the list that applies.
pub rescue_refusal : (s : List ℕ) (n m : ℕ) → rescue_refusal_of (rescue_of s n m) ≡ first_refusal (rescue_cases s n m)
unfolding rescue_of
rescue_refusal s n m = handed_on Err rescue_refusal_of (λ k. refl) (rescue_cases s n m) _

module _ (s : List ℕ) (n m : ℕ) (h : rescue_refusal_of (rescue_of s n m) ≡ 0 → ⊥) where
  -- PROMISE. Beside a refusal the three numbers are 0.
  pub rescue_zeroed : (kept_of (rescue_of s n m) ≡ 0) × (ranges_number_of (rescue_of s n m) ≡ 0) × (passed_of (rescue_of s n m) ≡ 0)
  unfolding rescue_of
  rescue_zeroed =
      let f = refused_first Err (rescue_cases s n m) (Ok (counts_of s)) (λ z. h (rescue_refusal s n m ∙ z)) in
      let e : rescue_of s n m ≡ Err f.it = f.refused in
      (ap kept_of e, ap ranges_number_of e, ap passed_of e)

-- PROMISE. And both buffers are as they were.
pub rescue_keeps : (s records list : List ℕ) → (rescue_refusal_of (rescue_of s (length records) (length list)) ≡ 0 → ⊥)
    → (records_after s (length list) records ≡ records) × (list_after s (length records) list ≡ list)
unfolding records_after list_after
rescue_keeps s records list h =
    let r : first_refusal (rescue_cases s (length records) (length list)) ≡ 0 → ⊥ = λ z. h (rescue_refusal s (length records) (length list) ∙ z) in
    (refused_same records (rescue_cases s (length records) (length list)) _ r, refused_same list (rescue_cases s (length records) (length list)) _ r)

-- ---- the answer

-- PROMISE. Without a refusal the numbers are those of the walk.
pub rescue_numbers : (s : List ℕ) (n m : ℕ) → rescue_refusal_of (rescue_of s n m) ≡ 0
    → (kept_of (rescue_of s n m) ≡ kept_count s) × (ranges_number_of (rescue_of s n m) ≡ length (ranges_in s)) × (passed_of (rescue_of s n m) ≡ passed_count s)
unfolding rescue_of
rescue_numbers s n m z =
    let e : rescue_of s n m ≡ Ok (counts_of s) = none_answered Err (rescue_cases s n m) _ (first_none (rescue_cases s n m) (sym (rescue_refusal s n m) ∙ z)) in
    (ap kept_of e, ap ranges_number_of e, ap passed_of e)

-- PROMISE. And the buffers have the kept records and the list at their fronts, and behind them what was there.
pub rescue_buffers : (s records list : List ℕ) → rescue_refusal_of (rescue_of s (length records) (length list)) ≡ 0
    → (records_after s (length list) records ≡ kept_bytes s ++ drop (record_length * kept_count s) records)
    × (list_after s (length records) list ≡ list_bytes (ranges_in s) ++ drop (entry_length * length (ranges_in s)) list)
unfolding records_after list_after
rescue_buffers s records list z =
    let c = rescue_cases s (length records) (length list) in
    let none = first_none c (sym (rescue_refusal s (length records) (length list)) ∙ z) in (
      none_answered (λ _. records) c _ none ∙ front_is (kept_bytes s) records _ (kept_length s),
      none_answered (λ _. list) c _ none ∙ front_is (list_bytes (ranges_in s)) list _ (list_length (ranges_in s)),
    )

-- PROMISE. Buffers of 65,520 and 16,920 bytes hold every answer.
pub rescue_most : (s : List ℕ) → length s ≤ most_bytes → (record_length * kept_count s ≤ 65520) × (entry_length * length (ranges_in s) ≤ 16920)
rescue_most s h = (omega (arith, kept_few s), omega (arith, ranges_few s))

-- ---- what is written

-- pieces that read, one behind the other, are whole records
pieces_whole : (s is : List ℕ) → Each (λ i. has_record s i ≡ true) is → Each (λ i. i + record_length ≤ length s) is
    → (k : ℕ) → k < length is → has_record (records_at s is) (record_length * k) ≡ true
pieces_whole s [] e w k h = absurd (omega arith)
pieces_whole s (i ∷ is) e w zero h =
    let p : List ℕ = take record_length (drop i s) in
    let l : length p ≡ record_length = length-take-le record_length (drop i s) (omega (arith, length-drop i s, w.0)) in
    ap is_record (sym (read_front (p ++ records_at s is)) ∙ (ap read_of (take_at p (records_at s is) record_length l) ∙ read_front (drop i s))) ∙ e.0
pieces_whole s (i ∷ is) e w (suc k) h =
    let p : List ℕ = take record_length (drop i s) in
    let l : length p ≡ record_length = length-take-le record_length (drop i s) (omega (arith, length-drop i s, w.0)) in
    let f : record_length * suc k ≡ length p + record_length * k = omega (arith, l) in
    ap (λ (j : ℕ). has_record (p ++ records_at s is) j) f
    ∙ (ap (λ (x : List ℕ). is_record (read_of x)) (drop-append-add p (records_at s is) (record_length * k)) ∙ pieces_whole s is e.1 w.1 k (omega arith))

-- PROMISE. The kept records are whole records, one behind the other.
pub kept_whole : (s : List ℕ) → WholeRecords (kept_bytes s) (kept_count s)
unfolding kept_bytes kept_count
kept_whole s = record { size = kept_length s; reads = pieces_whole s (walk s).kept (kept_read s 0) (kept_within s 0) }

-- numbers of four bytes are read back, whatever is behind them
entry_listed : (n : ℕ) (rs : List Range) (t : List ℕ) → n < 256 ^ 4 → Within n rs → listed (length rs) (list_bytes rs ++ t) ≡ rs
entry_listed n [] t h w = refl
entry_listed n (r ∷ rs) t h w =
    let a = number_bytes [] 4 r.start (bytes_of 4 r.size ++ (list_bytes rs ++ t)) ∙ mod-eq_of_lt (omega (arith, w.0)) in
    let b = number_bytes (bytes_of 4 r.start) 4 r.size (list_bytes rs ++ t) ∙ mod-eq_of_lt (omega (arith, w.0)) in
    ap₂ (λ (x y : ℕ). range x y ∷ listed (length rs) (list_bytes rs ++ t)) a b ∙ ap (λ (l : List Range). r ∷ l) (entry_listed n rs t h w.1)

-- PROMISE. The entries of the list read back as the ranges.
pub list_reads_back : (s : List ℕ) → length s ≤ most_bytes → listed (length (ranges_in s)) (list_bytes (ranges_in s)) ≡ ranges_in s
list_reads_back s h =
    ap (listed (length (ranges_in s))) (sym (append-nil (list_bytes (ranges_in s)))) ∙ entry_listed (length s) (ranges_in s) [] (omega arith) (ranges_within s)

-- from a buffer as well that has the list at its front
pub front_reads_back : (s old : List ℕ) → length s ≤ most_bytes → listed (length (ranges_in s)) (at_front (list_bytes (ranges_in s)) old) ≡ ranges_in s
unfolding at_front
front_reads_back s old h = entry_listed (length s) (ranges_in s) _ (omega arith) (ranges_within s)
