-- The loops over hops and chains. What was counted, or written, and what the walk from the next place still gives are together those of the whole walk; at
-- the end nothing is left. Assumes nothing.
use Prim.Native.Nat.{ℕ, ◌+◌, ◌-◌, ◌*◌, ◌/◌, ◌≤◌}
use mathlib.Core.Path.{◌≡◌, refl, ap, sym, ◌∙◌}
use mathlib.Core.Bool.{Bool, true, false, cond}
use mathlib.Core.List.{List, [], ◌∷◌, ◌++◌}
use native.Mathlib.Omega.{arith}
use native.Mathlib.Nat.{zero-add}
use lib.Dec.{ltb}
use lib.ListN.{length, take, drop, length-append}
use Rattle.std.specs.Int.{from_bool}
use Rattle.bigendian.specs.Buffers.{at_front}
use Rattle.bigendian.proofs.Buffers.{front_copy}
use Rattle.bigendian.proofs.Filling.{Filling, filling_none, filling_room, filling_more, filling_all}
use Rattle.record.specs.Format.{record_length}
use Rattle.rescue.specs.Walk.{range, walk_from, ranges_of}
use Rattle.rescue.specs.declared.Range.{Range}
use Rattle.rescue.specs.Rescue.{entry_length, kept_count, ranges_in, passed_count, records_at, kept_bytes, list_bytes}
use Rattle.rescue.specs.Inner.{Hop, Turned, range_to, Fits}
use Rattle.rescue.proofs.Walks.{walk_ends}
use Rattle.rescue.proofs.Hops.{record_places, hop_kept, chain_kept, chain_passed, chain_within}
use Rattle.rescue.proofs.Ranges.{hop_ranges, ranges_few}
use Rattle.rescue.proofs.Entries.{list_length, list_append, records_length, records_append}
use Rattle.rescue.proofs.Covers.{kept_within, bytes_counted}
use Rattle.rescue.proofs.Whole.{records_there, places_count}

-- ---- a turn of the loops: a hop from i to j, and a chain from j to e

module _ (s : List ℕ) (i j e : ℕ) (t : Turned s i j e) where
  turn_kept : (walk_from s i).kept ≡ record_places j t.chain.count ++ (walk_from s e).kept
  turn_kept = hop_kept s i j t.hop ∙ chain_kept s j e t.chain

  pub turn_ranges : ranges_of (walk_from s i).passed ≡ range_to i j ++ ranges_of (walk_from s e).passed
  turn_ranges = hop_ranges s i j t.hop ∙ ap (λ (l : List ℕ). range_to i j ++ ranges_of l) (chain_passed s j e t.chain)

  pub turn_within : e ≤ length s
  turn_within = chain_within s j e t.chain t.hop.within

-- ---- counting

-- 1 for a list of one element, 0 for the empty one
counts_one : {A : Type 0} (b : Bool) (x : A) → length (cond b (x ∷ []) []) ≡ from_bool b
counts_one true x = refl
counts_one false x = refl

-- so many bytes of records, and so many ranges, are counted before place i
pub record Counted (s : List ℕ) (i kept ranges : ℕ) : Type 0 where
  pub records : kept + record_length * length (walk_from s i).kept ≡ record_length * kept_count s
  pub passed : ranges + length (ranges_of (walk_from s i).passed) ≡ length (ranges_in s)
  pub within : i ≤ length s

pub counted_none : (s : List ℕ) → Counted s 0 0 0
unfolding kept_count ranges_in
counted_none s = record { records = zero-add _; passed = zero-add _; within = omega arith }

pub counted_more : {s : List ℕ} {i kept ranges : ℕ} (j e r : ℕ) → Counted s i kept ranges → Turned s i j e → r ≡ from_bool (ltb i j)
    → Counted s e (kept + (e - j)) (ranges + r)
counted_more {s = s} {i = i} j e r d t p = record {
  records = omega (arith, d.records, t.chain.end, ap length (turn_kept s i j e t), length-append (record_places j t.chain.count) (walk_from s e).kept, places_count t.chain.count j);
  passed = omega (arith, p, d.passed, ap length (turn_ranges s i j e t), length-append (range_to i j) (ranges_of (walk_from s e).passed), counts_one {A = Range} (ltb i j) (range i (j - i)));
  within = turn_within s i j e t;
}

-- they are few
pub kept_few : (s : List ℕ) → record_length * kept_count s ≤ length s
kept_few s = omega (arith, bytes_counted s)

pub counted_few : {s : List ℕ} {i kept ranges : ℕ} → Counted s i kept ranges → (kept ≤ length s) × (31 * ranges ≤ length s + 30)
counted_few {s = s} d = (omega (arith, d.records, kept_few s), omega (arith, d.passed, ranges_few s))

pub counted_all : {s : List ℕ} {i kept ranges : ℕ} → Counted s i kept ranges → length s ≤ i
    → (kept / record_length ≡ kept_count s) × (ranges ≡ length (ranges_in s)) × (length s - kept ≡ passed_count s)
unfolding ranges_of
counted_all {s = s} {i = i} d h =
    let k = (rw (walk_ends s i h) at d.records) in
    let r = (rw (walk_ends s i h) at d.passed) in
    (omega (arith, k), omega (arith, r), omega (arith, k, bytes_counted s))

-- ---- writing

-- the kept records are thirty bytes each
pub kept_length : (s : List ℕ) → length (kept_bytes s) ≡ record_length * kept_count s
unfolding kept_bytes kept_count
kept_length s = records_length s (walk_from s 0).kept (kept_within s 0)

-- the records and the list before place i are written
pub record Written (s records₀ list₀ records list : List ℕ) (i kept listed : ℕ) : Type 0 where
  pub keeps : Filling records₀ (kept_bytes s) records kept (records_at s (walk_from s i).kept)
  pub lists : Filling list₀ (list_bytes (ranges_in s)) list listed (list_bytes (ranges_of (walk_from s i).passed))
  pub within : i ≤ length s

pub written_none : (s records list : List ℕ) → Fits s (length records) (length list) → Written s records list records list 0 0 0
unfolding kept_bytes ranges_in
written_none s records list f = record {
  keeps = filling_none records (kept_bytes s) (omega (arith, f.records, kept_length s));
  lists = filling_none list (list_bytes (ranges_in s)) (omega (arith, f.list, list_length (ranges_in s)));
  within = omega arith;
}

-- the entry of a hop, if it has one
module _ {s records₀ list₀ records list : List ℕ} {i kept listed : ℕ} (w : Written s records₀ list₀ records list i kept listed) (j : ℕ) (h : Hop s i j) where
  list_hop : list_bytes (ranges_of (walk_from s i).passed) ≡ list_bytes (range_to i j) ++ list_bytes (ranges_of (walk_from s j).passed)
  list_hop = ap list_bytes (hop_ranges s i j h) ∙ list_append (range_to i j) (ranges_of (walk_from s j).passed)

  pub list_room_lem : entry_length * length (range_to i j) ≤ length (take (length list - listed) (drop listed list))
  list_room_lem = omega (arith, filling_room w.lists (list_bytes (range_to i j)) (list_bytes (ranges_of (walk_from s j).passed)) list_hop, list_length (range_to i j))

-- and the records of the chain behind it
module _ {s records₀ list₀ records list : List ℕ} {i kept listed j e : ℕ} (w : Written s records₀ list₀ records list i kept listed) (t : Turned s i j e) where
  -- the bytes that are lent for them
  abbrev part : List ℕ
  part = take (e - j) (drop j s)

  part_records : records_at s (record_places j t.chain.count) ≡ part
  part_records = let q : record_length * t.chain.count ≡ e - j = omega (arith, t.chain.end) in records_there t.chain.count s j ∙ ap (λ (k : ℕ). take k (drop j s)) q

  records_turn : records_at s (walk_from s i).kept ≡ part ++ records_at s (walk_from s e).kept
  records_turn =
      ap (records_at s) (turn_kept s i j e t)
      ∙ (records_append s (record_places j t.chain.count) (walk_from s e).kept ∙ ap (λ (l : List ℕ). l ++ records_at s (walk_from s e).kept) part_records)

  list_turn : list_bytes (ranges_of (walk_from s i).passed) ≡ list_bytes (range_to i j) ++ list_bytes (ranges_of (walk_from s e).passed)
  list_turn = ap list_bytes (turn_ranges s i j e t) ∙ list_append (range_to i j) (ranges_of (walk_from s e).passed)

  pub records_room_lem : length part ≤ length (take (length records - kept) (drop kept records))
  records_room_lem = filling_room w.keeps part (records_at s (walk_from s e).kept) records_turn

  pub written_more : (a b : ℕ) (xs ys : List ℕ)
      → a ≡ length part → xs ≡ take (length part) part ++ drop (length part) (take (length records - kept) (drop kept records))
      → b ≡ entry_length * length (range_to i j) → ys ≡ at_front (list_bytes (range_to i j)) (take (length list - listed) (drop listed list))
      → Written s records₀ list₀ (take kept records ++ (xs ++ drop (length records - kept) (drop kept records))) (take listed list ++ (ys ++ drop (length list - listed) (drop listed list))) e (kept + a) (listed + b)
  written_more a b xs ys p x q y =
      let f : b ≡ length (list_bytes (range_to i j)) = q ∙ sym (list_length (range_to i j)) in
      rw (p, f)
      (record {
        keeps = filling_more w.keeps part _ xs records_turn (x ∙ front_copy part (take (length records - kept) (drop kept records)));
        lists = filling_more w.lists (list_bytes (range_to i j)) _ ys list_turn y;
        within = turn_within s i j e t;
      })

-- at the end
pub written_all : {s records₀ list₀ records list : List ℕ} {i kept listed : ℕ} → Written s records₀ list₀ records list i kept listed → length s ≤ i
    → (records ≡ at_front (kept_bytes s) records₀) × (list ≡ at_front (list_bytes (ranges_in s)) list₀)
unfolding ranges_of
written_all {s = s} {i = i} w h = (filling_all w.keeps (rw (walk_ends s i h) refl), filling_all w.lists (rw (walk_ends s i h) refl))
