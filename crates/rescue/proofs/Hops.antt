-- The walk, many steps at a time: over places without a record (a hop), and over records that follow each other (a chain). How the code finds their ends.
-- Assumes nothing.
use Prim.Native.Nat.{ℕ, zero, suc, ◌+◌, ◌-◌, ◌*◌, ◌<◌, ◌≤◌}
use mathlib.Core.Path.{◌≡◌, refl, ap, sym, ◌∙◌}
use mathlib.Core.Bool.{Bool, true, false, true≢false}
use mathlib.Core.List.{List, [], ◌∷◌, ◌++◌}
use native.Mathlib.Omega.{arith}
use native.Mathlib.Decide.{ℕ_discrete, dec_lt}
use lib.ListN.{length, drop, take, length-drop}
use lib.Seq.{take_at, drop_at, drop-drop}
use Rattle.record.specs.Format.{record_length}
use Rattle.std.specs.Prelude.{Result, Ok, Err, ⊤, is_err}
use Rattle.instants.specs.declared.refusal.Refusal.{Refusal}
use Rattle.record.specs.Inner.{head_of}
use Rattle.record.specs.Records.{read_of, is_record}
use Rattle.record.proofs.Forms.{head_needed}
use Rattle.record.proofs.Kept.{read_front}
use Rattle.rescue.specs.Walk.{Walk, has_record, walk_from}
use Rattle.rescue.specs.Inner.{Hop, Chain}
use Rattle.rescue.specs.Claims.{places_from}
use Rattle.rescue.proofs.Walks.{record_within, walk_keeps, walk_passes}

-- ---- looking for the next record

-- no record stands from i on before j
pub record Looked (s : List ℕ) (i j : ℕ) : Type 0 where
  pub onward : i ≤ j
  pub within : j ≤ length s
  pub passed : (k : ℕ) → i ≤ k → k < j → has_record s k ≡ false

-- ---- looking for the end of records

-- records follow each other from i to j
pub record Linked (s : List ℕ) (i j : ℕ) : Type 0 where
  pub count : ℕ
  pub end : j ≡ i + record_length * count
  pub within : j ≤ length s
  pub reads : (k : ℕ) → k < count → has_record s (i + record_length * k) ≡ true

pub linked_none : (s : List ℕ) (i : ℕ) → i ≤ length s → Linked s i i
linked_none s i h = record { count = 0; end = omega arith; within = h; reads = λ k l. absurd (omega arith) }

pub linked_on : {s : List ℕ} {i j : ℕ} → Linked s i j → has_record s j ≡ true → Linked s i (j + record_length)
linked_on {s} {i} {j} l e = record { count = suc l.count; end = omega (arith, l.end); within = record_within s j e; reads = by }
  where
    by : (k : ℕ) → k < suc l.count → has_record s (i + record_length * k) ≡ true
    by k h = at (ℕ_discrete k l.count)
      where
        at : Dec (k ≡ l.count) → has_record s (i + record_length * k) ≡ true
        at (yes x) = let q : i + record_length * k ≡ j = omega (arith, l.end) in ap (has_record s) q ∙ e
        at (no x) = l.reads k (omega (arith, x))

pub linked_end : {s : List ℕ} {i j : ℕ} → Linked s i j → has_record s j ≡ false → Chain s i j
linked_end l e = record { count = l.count; end = l.end; reads = l.reads; ended = e }

-- where fewer than thirty bytes are left no record stands
pub none_behind : (s : List ℕ) (j : ℕ) → length (drop j s) < record_length → has_record s j ≡ false
none_behind s j h = by (has_record s j) refl
  where
    by : (b : Bool) → has_record s j ≡ b → b ≡ false
    by false e = refl
    by true e = absurd (omega (arith, record_within s j e, length-drop j s))

-- the first thirty of the bytes from j on
module _ (s x rest : List ℕ) (j : ℕ) (e : drop j s ≡ x ++ rest) (h : length x ≡ record_length) where
  -- read as all of them do
  pub chunk_reads : is_record (read_of x) ≡ has_record s j
  chunk_reads = ap is_record (ap read_of (sym (take_at x rest record_length h) ∙ ap (take record_length) (sym e)) ∙ read_front (drop j s))

  pub chunk_headless : is_err (head_of x) ≡ true → has_record s j ≡ false
  chunk_headless = by (head_of x) refl
    where
      by : (a : Result ⊤ Refusal) → head_of x ≡ a → is_err a ≡ true → has_record s j ≡ false
      by (Ok u) q f = absurd (true≢false (sym f))
      by (Err r) q f = sym chunk_reads ∙ head_needed x r q

  -- and the others are the bytes behind them
  pub chunk_on : rest ≡ drop (j + record_length) s
  chunk_on = sym (drop_at x rest record_length h) ∙ (ap (drop record_length) (sym e) ∙ drop-drop record_length j s)

-- ---- a hop of the walk

-- over places without a record
pub over : (n : ℕ) (s : List ℕ) (i : ℕ) → i + n ≤ length s → ((k : ℕ) → i ≤ k → k < i + n → has_record s k ≡ false)
    → ((walk_from s i).kept ≡ (walk_from s (i + n)).kept) × ((walk_from s i).passed ≡ places_from i n ++ (walk_from s (i + n)).passed)
over zero s i h f =
    let e : i ≡ i + 0 = omega arith in
    (ap (λ (k : ℕ). (walk_from s k).kept) e, ap (λ (k : ℕ). (walk_from s k).passed) e)
over (suc n) s i h f =
    let e : i + 1 + n ≡ i + suc n = omega arith in
    let w = walk_passes s i (omega arith) (f i (omega arith) (omega arith)) in
    let r = over n s (i + 1) (omega arith) (λ k p q. f k (omega arith) (omega arith)) in (
      ap (λ (x : Walk). x.kept) w ∙ (r.0 ∙ ap (λ (k : ℕ). (walk_from s k).kept) e),
      ap (λ (x : Walk). x.passed) w ∙ ap (λ (l : List ℕ). i ∷ l) (r.1 ∙ ap (λ (k : ℕ). places_from (i + 1) n ++ (walk_from s k).passed) e),
    )

-- n places from i on, thirty apart
abbrev pub record_places : ℕ → ℕ → List ℕ
record_places i zero = []
record_places i (suc n) = i ∷ record_places (i + record_length) n

-- over records that follow each other
pub all_kept : (n : ℕ) (s : List ℕ) (i : ℕ) → ((k : ℕ) → k < n → has_record s (i + record_length * k) ≡ true)
    → ((walk_from s i).kept ≡ record_places i n ++ (walk_from s (i + record_length * n)).kept) × ((walk_from s i).passed ≡ (walk_from s (i + record_length * n)).passed)
all_kept zero s i h =
    let e : i ≡ i + record_length * 0 = omega arith in
    (ap (λ (j : ℕ). (walk_from s j).kept) e, ap (λ (j : ℕ). (walk_from s j).passed) e)
all_kept (suc n) s i h =
    let e : i + record_length * 0 ≡ i = omega arith in
    let f : i + record_length + record_length * n ≡ i + record_length * suc n = omega arith in
    let w = walk_keeps s i (ap (has_record s) (sym e) ∙ h 0 (omega arith)) in
    let r = all_kept n s (i + record_length) (λ k l. let g : i + record_length + record_length * k ≡ i + record_length * suc k = omega arith in ap (has_record s) g ∙ h (suc k) (omega arith)) in (
      ap (λ (x : Walk). x.kept) w ∙ ap (λ (l : List ℕ). i ∷ l) (r.0 ∙ ap (λ (j : ℕ). record_places (i + record_length) n ++ (walk_from s j).kept) f),
      ap (λ (x : Walk). x.passed) w ∙ (r.1 ∙ ap (λ (j : ℕ). (walk_from s j).passed) f),
    )

-- ---- a hop from i to j, and a chain from j to e

module _ (s : List ℕ) (i j : ℕ) (h : Hop s i j) where
  hopped : ((walk_from s i).kept ≡ (walk_from s j).kept) × ((walk_from s i).passed ≡ places_from i (j - i) ++ (walk_from s j).passed)
  hopped =
      let q : i + (j - i) ≡ j = omega (arith, h.onward) in
      let o = over (j - i) s i (omega (arith, q, h.within)) (λ k p l. h.passed k p (omega (arith, q))) in
      (o.0 ∙ ap (λ (k : ℕ). (walk_from s k).kept) q, o.1 ∙ ap (λ (k : ℕ). places_from i (j - i) ++ (walk_from s k).passed) q)

  pub hop_kept : (walk_from s i).kept ≡ (walk_from s j).kept
  hop_kept = hopped.0

  pub hop_passed : (walk_from s i).passed ≡ places_from i (j - i) ++ (walk_from s j).passed
  hop_passed = hopped.1

module _ (s : List ℕ) (j e : ℕ) (c : Chain s j e) where
  pub chain_kept : (walk_from s j).kept ≡ record_places j c.count ++ (walk_from s e).kept
  chain_kept = (all_kept c.count s j c.reads).0 ∙ ap (λ (k : ℕ). record_places j c.count ++ (walk_from s k).kept) (sym c.end)

  pub chain_passed : (walk_from s j).passed ≡ (walk_from s e).passed
  chain_passed = (all_kept c.count s j c.reads).1 ∙ ap (λ (k : ℕ). (walk_from s k).passed) (sym c.end)

  -- it has a record where one stands at j
  chain_some : has_record s j ≡ true → 1 ≤ c.count
  chain_some r = by (dec_lt 0 c.count)
    where
      by : Dec (0 < c.count) → 1 ≤ c.count
      by (yes n) = n
      by (no n) = let q : j ≡ e = omega (arith, n, c.end) in absurd (true≢false (sym r ∙ (ap (has_record s) q ∙ c.ended)))

  -- and it ends among the bytes
  pub chain_within : j ≤ length s → e ≤ length s
  chain_within h = by c.count refl
    where
      by : (n : ℕ) → c.count ≡ n → e ≤ length s
      by zero q = omega (arith, q, c.end)
      by (suc n) q = omega (arith, q, c.end, record_within s (j + record_length * n) (c.reads n (omega (arith, q))))

-- both together lead on
pub turn_on : (s : List ℕ) (i j e : ℕ) → Hop s i j → Chain s j e → i < length s → i < e
turn_on s i j e h c l = by (dec_lt j (length s))
  where
    by : Dec (j < length s) → i < e
    by (yes n) = omega (arith, chain_some s j e c (h.found n), c.end, h.onward)
    by (no n) = omega (arith, n, c.end, h.within)
