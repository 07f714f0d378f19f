-- Whole records one behind the other are all kept: each is met where the one before it ends. Assumes nothing.
use Prim.Native.Nat.{ℕ, zero, suc, ◌+◌, ◌*◌}
use mathlib.Core.Path.{◌≡◌, refl, ap, sym, ◌∙◌}
use mathlib.Core.List.{List, [], ◌++◌, append-nil}
use native.Mathlib.Omega.{arith}
use lib.ListN.{length, take, drop}
use lib.Seq.{take-add, take_all, drop-drop}
use Rattle.record.specs.Format.{record_length}
use Rattle.rescue.specs.Walk.{Walk, has_record, walk_from, walk}
use Rattle.rescue.specs.Rescue.{kept_count, records_at, kept_bytes}
use Rattle.rescue.specs.Claims.{WholeRecords}
use Rattle.rescue.proofs.Walks.{walk_ends}
use Rattle.rescue.proofs.Hops.{record_places, all_kept}

-- the records at places thirty apart are the bytes there
pub records_there : (n : ℕ) (s : List ℕ) (i : ℕ) → records_at s (record_places i n) ≡ take (record_length * n) (drop i s)
records_there zero s i = refl
records_there (suc n) s i =
    let e : record_length * suc n ≡ record_length + record_length * n = omega arith in
    ap (λ (l : List ℕ). take record_length (drop i s) ++ l) (records_there n s (i + record_length) ∙ ap (take (record_length * n)) (sym (drop-drop record_length i s)))
    ∙ (sym (take-add record_length (record_length * n) (drop i s)) ∙ ap (λ (k : ℕ). take k (drop i s)) (sym e))

pub places_count : (n i : ℕ) → length (record_places i n) ≡ n
places_count zero i = refl
places_count (suc n) i = ap suc (places_count n (i + record_length))

-- what a walk over whole records is
whole_walk : (s : List ℕ) (n : ℕ) → WholeRecords s n → ((walk_from s 0).kept ≡ record_places 0 n) × ((walk_from s 0).passed ≡ [])
whole_walk s n w =
    let e : 0 + record_length * n ≡ length s = omega (arith, w.size) in
    let f = walk_ends s (0 + record_length * n) (omega (arith, e)) in
    let r = all_kept n s 0 (λ k l. let g : 0 + record_length * k ≡ record_length * k = omega arith in ap (has_record s) g ∙ w.reads k l) in (
      r.0 ∙ (ap (λ (x : Walk). record_places 0 n ++ x.kept) f ∙ append-nil (record_places 0 n)),
      r.1 ∙ ap (λ (x : Walk). x.passed) f,
    )

-- PROMISE. Whole records, with nothing between, are all kept, and no byte is passed.
pub whole_kept : (s : List ℕ) (n : ℕ) → WholeRecords s n → (kept_count s ≡ n) × (kept_bytes s ≡ s) × ((walk s).passed ≡ [])
unfolding kept_count kept_bytes
whole_kept s n w =
    let e = whole_walk s n w in (
      ap length e.0 ∙ places_count n 0,
      ap (records_at s) e.0 ∙ (records_there n s 0 ∙ take_all (record_length * n) s (omega (arith, w.size))),
      e.1,
    )
