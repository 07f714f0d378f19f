-- One byte of one of n whole records is changed. That record no longer reads (`changed_byte`); those before it and behind it read as they did, since reading
-- looks at their own bytes only. Where nothing reads at a place inside the damaged record either, the walk passes its thirty bytes and no other.
-- Assumes nothing.
use Prim.Native.Nat.{ℕ, suc, ◌+◌, ◌-◌, ◌*◌, ◌<◌, ◌≤◌}
use mathlib.Core.Path.{◌≡◌, refl, ap, ap₂, sym, subst, ◌∙◌}
use mathlib.Core.Bool.{true, false, true≢false}
use mathlib.Core.List.{List, [], ◌∷◌, ◌++◌, append-nil}
use native.Mathlib.Omega.{arith}
use native.Mathlib.Decide.{ℕ_discrete, dec_lt}
use lib.ListN.{length, take, drop, get_or, set, length-drop, length-append, length-set}
use lib.Seq.{take_all, get_or-drop, take-set-le, drop-set-lt, drop-set-add}
use borrow.Author.Tests.{lt-ltb}
use Rattle.bigendian.specs.Numbers.{Bytes}
use Rattle.record.specs.Format.{record_length}
use Rattle.record.specs.Records.{read_of, is_record}
use Rattle.record.proofs.Kept.{read_front}
use Rattle.record.proofs.Changed.{changed_byte}
use Rattle.rescue.specs.Walk.{Walk, range, has_record, walk_from, ranges_of}
use Rattle.rescue.specs.Rescue.{kept_count, ranges_in, records_at, kept_bytes}
use Rattle.rescue.specs.Claims.{places_from, WholeRecords}
use Rattle.rescue.proofs.Walks.{walk_ends}
use Rattle.rescue.proofs.Hops.{record_places, over, all_kept}
use Rattle.rescue.proofs.Ranges.{joined_places}
use Rattle.rescue.proofs.Entries.{records_append}
use Rattle.rescue.proofs.Whole.{records_there, places_count}
use Rattle.std.specs.Prelude.{Result, Ok, Err}
use Rattle.record.specs.declared.Record.{Record}
use Rattle.instants.specs.declared.refusal.Refusal.{Refusal}

-- ---- one byte and the records around it

-- before the byte, the next thirty bytes read as they did
before : (s : List ℕ) (i p b : ℕ) → i + record_length ≤ p → has_record (set s p b) i ≡ has_record s i
before s i p b h =
    let q : ℕ = p - i in
    let e : p ≡ i + q = omega arith in
    let t : take record_length (drop i (set s p b)) ≡ take record_length (drop i s) =
    ap (λ (k : ℕ). take record_length (drop i (set s k b))) e
    ∙ (ap (take record_length) (drop-set-add i s q b) ∙ take-set-le record_length (drop i s) q b (omega arith)) in
    ap is_record (sym (read_front (drop i (set s p b))) ∙ (ap read_of t ∙ read_front (drop i s)))

-- and behind it
behind : (s : List ℕ) (i p b : ℕ) → p < i → has_record (set s p b) i ≡ has_record s i
behind s i p b h = ap (λ (l : List ℕ). is_record (read_of l)) (drop-set-lt i s p b h)

-- a record with another byte is none
changed : (s : List ℕ) (i q b : ℕ) → Bytes s → has_record s i ≡ true → q < record_length → b < 256 → (get_or s (i + q) 0 ≡ b → ⊥) → has_record (set s (i + q) b) i ≡ false
changed s i q b y e l h n = ap (λ (l : List ℕ). is_record (read_of l)) (drop-set-add i s q b) ∙ by (read_of (drop i s)) (read_of (set (drop i s) q b)) refl refl e
  where
    part : Bytes (drop i s)
    part = record { byte = λ j. subst (λ (x : ℕ). x < 256) (sym (get_or-drop i s j 0)) (y.byte (i + j)) }

    by : (a c : (Result Record Refusal)) → read_of (drop i s) ≡ a → read_of (set (drop i s) q b) ≡ c → is_record a ≡ true → is_record c ≡ false
    by (Err k) c p r f = absurd (true≢false (sym f))
    by (Ok x) (Err k) p r f = refl
    by (Ok x) (Ok z) p r f = absurd (changed_byte (drop i s) x q b part p l h (λ g. n (sym (get_or-drop i s q 0) ∙ g)) z r)

-- ---- n records, of which record m has another byte at its place q

module _ (s : List ℕ) (n m q b : ℕ) (w : WholeRecords s n) (y : Bytes s) (m-in : m < n) (q-in : q < record_length) (b-in : b < 256)
    (other : get_or s (record_length * m + q) 0 ≡ b → ⊥) where
  abbrev t : List ℕ
  t = set s (record_length * m + q) b

  size : length t ≡ record_length * n
  size = length-set s (record_length * m + q) b ∙ w.size

  -- the damaged record is lost
  pub damaged_lost : has_record t (record_length * m) ≡ false
  damaged_lost = changed s (record_length * m) q b y (w.reads m m-in) q-in b-in other

  -- every other one reads as it did
  pub others_read : (k : ℕ) → k < n → (k ≡ m → ⊥) → has_record t (record_length * k) ≡ true
  others_read k l d = by (dec_lt k m)
    where
      by : Dec (k < m) → has_record t (record_length * k) ≡ true
      by (yes h) = before s (record_length * k) (record_length * m + q) b (omega arith) ∙ w.reads k l
      by (no h) = behind s (record_length * k) (record_length * m + q) b (omega (arith, h, d)) ∙ w.reads k l

  -- where no thirty bytes that start inside it read
  module _ (inside : (k : ℕ) → 0 < k → k < record_length → has_record t (record_length * m + k) ≡ false) where
    -- the records before it
    front : ((walk_from t 0).kept ≡ record_places 0 m ++ (walk_from t (0 + record_length * m)).kept) × ((walk_from t 0).passed ≡ (walk_from t (0 + record_length * m)).passed)
    front = all_kept m t 0 (λ k l. let e : 0 + record_length * k ≡ record_length * k = omega arith in ap (has_record t) e ∙ others_read k (omega arith) (λ e. omega arith))

    -- its places
    unread : (k : ℕ) → record_length * m ≤ k → k < record_length * m + record_length → has_record t k ≡ false
    unread k p l = by (ℕ_discrete k (record_length * m))
      where
        by : Dec (k ≡ record_length * m) → has_record t k ≡ false
        by (yes e) = ap (has_record t) e ∙ damaged_lost
        by (no e) =
            let f : k ≡ record_length * m + (k - record_length * m) = omega arith in
            ap (has_record t) f ∙ inside (k - record_length * m) (omega (arith, e)) (omega arith)

    middle : ((walk_from t (record_length * m)).kept ≡ (walk_from t (record_length * m + record_length)).kept)
        × ((walk_from t (record_length * m)).passed ≡ places_from (record_length * m) record_length ++ (walk_from t (record_length * m + record_length)).passed)
    middle = over record_length t (record_length * m) (omega (arith, size)) unread

    -- the records behind it
    abbrev rest : ℕ
    rest = n - suc m

    back : ((walk_from t (record_length * m + record_length)).kept ≡ record_places (record_length * m + record_length) rest) × ((walk_from t (record_length * m + record_length)).passed ≡ [])
    back =
        let f = walk_ends t (record_length * m + record_length + record_length * rest) (omega (arith, size)) in
        let r = all_kept rest t (record_length * m + record_length) (λ k l.
        let e : record_length * m + record_length + record_length * k ≡ record_length * (suc m + k) = omega arith in
        ap (has_record t) e ∙ others_read (suc m + k) (omega arith) (λ e. omega arith)) in (
          r.0 ∙ (ap (λ (x : Walk). record_places (record_length * m + record_length) rest ++ x.kept) f ∙ append-nil (record_places (record_length * m + record_length) rest)),
          r.1 ∙ ap (λ (x : Walk). x.passed) f,
        )

    kept_are : (walk_from t 0).kept ≡ record_places 0 m ++ record_places (record_length * m + record_length) rest
    kept_are =
        let e : 0 + record_length * m ≡ record_length * m = omega arith in
        front.0 ∙ ap (λ (l : List ℕ). record_places 0 m ++ l) (ap (λ (j : ℕ). (walk_from t j).kept) e ∙ (middle.0 ∙ back.0))

    passed_are : (walk_from t 0).passed ≡ places_from (record_length * m) record_length ++ []
    passed_are =
        let e : 0 + record_length * m ≡ record_length * m = omega arith in
        front.1 ∙ (ap (λ (j : ℕ). (walk_from t j).passed) e ∙ (middle.1 ∙ ap (λ (l : List ℕ). places_from (record_length * m) record_length ++ l) back.1))

    -- PROMISE. All other records are kept, as they stood, and the damaged one is the only range.
    pub others_kept : kept_bytes t ≡ take (record_length * m) s ++ drop (record_length * m + record_length) s
    unfolding kept_bytes
    others_kept =
        ap (records_at t) kept_are
        ∙ (records_append t (record_places 0 m) (record_places (record_length * m + record_length) rest)
        ∙ ap₂ ◌++◌
        (records_there m t 0 ∙ take-set-le (record_length * m) s (record_length * m + q) b (omega arith))
        (records_there rest t (record_length * m + record_length)
        ∙ (take_all (record_length * rest) (drop (record_length * m + record_length) t) (omega (arith, length-drop (record_length * m + record_length) t, size))
        ∙ drop-set-lt (record_length * m + record_length) s (record_length * m + q) b (omega arith))))

    pub one_range : ranges_in t ≡ range (record_length * m) record_length ∷ []
    unfolding ranges_in ranges_of
    one_range =
        let i : ℕ = record_length * m in
        let e : i + record_length - i ≡ record_length = omega arith in
        ap ranges_of passed_are ∙ (joined_places record_length i [] tt ∙ rw (lt-ltb i (i + record_length) (omega arith), e) refl)

    pub one_lost : suc (kept_count t) ≡ n
    unfolding kept_count
    one_lost = omega (arith, ap length kept_are, length-append (record_places 0 m) (record_places (record_length * m + record_length) rest), places_count m 0, places_count rest (record_length * m + record_length))
