-- What a walk covers: every place from its start on is passed or in a kept record, and not both; how many of each there are; what reads as a record is kept
-- and what does not is passed. Assumes nothing.
use Prim.Native.Nat.{ℕ, ◌+◌, ◌-◌, ◌*◌, ◌<◌, ◌≤◌}
use mathlib.Core.Path.{◌≡◌, refl, sym, ◌∙◌}
use mathlib.Core.Bool.{Bool, true, false, not, ◌&&◌, ◌||◌}
use mathlib.Core.List.{List, [], ◌∷◌}
use native.Mathlib.Omega.{arith}
use native.Mathlib.Decide.{dec_lt, ℕ_discrete}
use lib.Dec.{eqb, ltb, leb}
use lib.ListN.{length}
use borrow.Author.Tests.{lt-ltb, le-ltb, le-leb, lt-leb, eq-eqb, ne_eqb}
use Rattle.record.specs.Format.{record_length}
use Rattle.rescue.specs.Walk.{Walk, has_record, walk, walk_from}
use Rattle.rescue.specs.Rescue.{kept_count, passed_count}
use Rattle.rescue.specs.Claims.{Each, among, in_record}
use Rattle.rescue.proofs.Walks.{walk_case}

-- PROMISE. Each kept place has a record.
pub kept_read : (s : List ℕ) (i : ℕ) → Each (λ k. has_record s k ≡ true) (walk_from s i).kept
kept_read s = walk_case (λ (i : ℕ) (w : Walk). Each (λ k. has_record s k ≡ true) w.kept) s (λ i h. tt) (λ i w e h p. (e, p)) (λ i w e h p. p)

-- with its thirty bytes
pub kept_within : (s : List ℕ) (i : ℕ) → Each (λ k. k + record_length ≤ length s) (walk_from s i).kept
kept_within s = walk_case (λ (i : ℕ) (w : Walk). Each (λ k. k + record_length ≤ length s) w.kept) s (λ i h. tt) (λ i w e h p. (h, p)) (λ i w e h p. p)

-- PROMISE. No passed place has a record.
pub passed_unread : (s : List ℕ) (i : ℕ) → Each (λ k. has_record s k ≡ false) (walk_from s i).passed
passed_unread s = walk_case (λ (i : ℕ) (w : Walk). Each (λ k. has_record s k ≡ false) w.passed) s (λ i h. tt) (λ i w e h p. p) (λ i w e h p. (e, p))

-- kept records and passed bytes make up the bytes that are left
pub bytes_from : (s : List ℕ) (i : ℕ) → record_length * length (walk_from s i).kept + length (walk_from s i).passed ≡ length s - i
bytes_from s =
    walk_case (λ (i : ℕ) (w : Walk). record_length * length w.kept + length w.passed ≡ length s - i) s
    (λ i h. omega arith) (λ i w e h p. omega arith) (λ i w e h p. omega arith)

-- PROMISE. Thirty times the kept records and the passed bytes are the length, for any bytes.
pub bytes_counted : (s : List ℕ) → kept_count s * record_length + passed_count s ≡ length s
unfolding kept_count passed_count
bytes_counted s = omega (arith, bytes_from s 0)

-- ---- every place

and_false : (b : Bool) → (b && false) ≡ false
and_false true = refl
and_false false = refl

-- what is to be shown of a place p, from place i on
record Covered (n p i : ℕ) (w : Walk) : Type 0 where
  pub before : p < i → in_record p w.kept ≡ false
  pub from : among p w.passed ≡ ((leb i p && ltb p n) && not (in_record p w.kept))

module _ (s : List ℕ) (p : ℕ) where
  at_end_lem : (i : ℕ) → length s ≤ i → Covered (length s) p i (record { kept = []; passed = [] })
  at_end_lem i h = record { before = λ l. refl; from = by (dec_lt p i) }
    where
      by : Dec (p < i) → false ≡ ((leb i p && ltb p (length s)) && true)
      by (yes l) = rw (lt-leb i p l) refl
      by (no l) = rw (le-leb i p (omega (arith, l)), le-ltb p (length s) (omega (arith, l))) refl

  at_record : (i : ℕ) (w : Walk) → Covered (length s) p (i + record_length) w → Covered (length s) p i (record { kept = i ∷ w.kept; passed = w.passed })
  at_record i w c = record {
    before = λ l. rw (lt-leb i p l, c.before (omega arith)) refl;
    from = by (dec_lt p i) (dec_lt p (i + record_length));
  }
    where
      by : Dec (p < i) → Dec (p < i + record_length)
          → among p w.passed ≡ ((leb i p && ltb p (length s)) && not ((leb i p && ltb p (i + record_length)) || in_record p w.kept))
      by (yes l) k = c.from ∙ rw (lt-leb i p l, lt-leb (i + record_length) p (omega arith)) refl
      by (no l) (yes k) =
          c.from ∙ rw (lt-leb (i + record_length) p k, le-leb i p (omega (arith, l)), lt-ltb p (i + record_length) k) (sym (and_false (ltb p (length s))))
      by (no l) (no k) =
          c.from ∙ rw (le-leb (i + record_length) p (omega (arith, k)), le-leb i p (omega (arith, l)), le-ltb p (i + record_length) (omega (arith, k))) refl

  at_byte : (i : ℕ) (w : Walk) → i < length s → Covered (length s) p (i + 1) w → Covered (length s) p i (record { kept = w.kept; passed = i ∷ w.passed })
  at_byte i w h c = record { before = λ l. c.before (omega arith); from = by (dec_lt p i) (ℕ_discrete p i) }
    where
      by : Dec (p < i) → Dec (p ≡ i) → (eqb p i || among p w.passed) ≡ ((leb i p && ltb p (length s)) && not (in_record p w.kept))
      by (yes l) k = rw (ne_eqb p i (λ e. omega arith), c.from, lt-leb i p l, lt-leb (i + 1) p (omega arith)) refl
      by (no l) (yes k) = rw (eq-eqb p i k, le-leb i p (omega arith), lt-ltb p (length s) (omega arith), c.before (omega arith)) refl
      by (no l) (no k) = rw (ne_eqb p i k, c.from, le-leb i p (omega (arith, l)), le-leb (i + 1) p (omega (arith, l, k))) refl

-- PROMISE. A place is passed exactly where it is one of the places and is not in a kept record.
pub every_place : (s : List ℕ) (p : ℕ) → among p (walk s).passed ≡ (ltb p (length s) && not (in_record p (walk s).kept))
every_place s p =
    (walk_case (λ (i : ℕ) (w : Walk). Covered (length s) p i w) s (at_end_lem s p) (λ i w e h c. at_record s p i w c) (λ i w e h c. at_byte s p i w h c) 0).from
    ∙ rw (le-leb 0 p (omega arith)) refl
