-- A place in a file and the moment there. A moment before the end is that of a record that reads and is after the one before; the place behind it has what
-- is left. At the end nothing is left, and where the next record is not sound the file is not. Assumes nothing.
use Prim.Native.Nat.{ℕ, ◌+◌, ◌≤◌, ◌<◌}
use mathlib.Core.Path.{◌≡◌, refl, ap, sym, ◌∙◌}
use mathlib.Core.Bool.{Bool, true, false, cond, ◌&&◌, true≢false}
use mathlib.Core.List.{List, [], ◌∷◌}
use native.Mathlib.Omega.{arith}
use native.Mathlib.Decide.{dec_le}
use mathlib.Core.Logic.{◌⊎◌, inl, inr}
use lib.Dec.{ltb}
use lib.ListN.{length, drop}
use borrow.Author.Tests.{ltb-true, lt-ltb}
use Rattle.instants.proofs.Moments.{accepted_le}
use Rattle.record.specs.declared.Record.{Record}
use Rattle.record.specs.Format.{record_length}
use Rattle.record.specs.Records.{read_of, is_record}
use Rattle.record.proofs.Unrefused.{read_accepted}
use Rattle.files.specs.Files.{when}
use Rattle.files.specs.Inner.{at_end, unsound, moment_in, next_moment, sound_after, answers_from, sound, Standing}
use Rattle.files.proofs.Answers.{from_step, from_end}
use Rattle.std.specs.Prelude.{Result, Ok, Err}
use Rattle.instants.specs.declared.refusal.Refusal.{Refusal}

-- a moment is positive, whatever the record
pub after_zero : (r : Record) → ltb 0 (when r) ≡ true
after_zero r = lt-ltb 0 (when r) (omega arith)

-- and that of a record that reads is before the end
pub before_end : (s : List ℕ) (r : Record) → read_of s ≡ Ok r → when r < at_end
before_end s r e = omega (arith, accepted_le r.day r.micros (read_accepted s r e))

-- the front of a file
pub standing_front : (s : List ℕ) (m : ℕ) → m ≡ next_moment 0 (answers_from s 0) → Standing s 0 m
unfolding sound
standing_front s m e = record { within = omega arith; last = 0; moment = e; rest = refl }

-- a record at a place, and the moment before it
pub record Found (s : List ℕ) (i m last : ℕ) : Type 0 where
  pub it : Record
  pub reads : read_of (drop i s) ≡ Ok it
  pub is : when it ≡ m
  pub after : last < m
  pub room : i + record_length ≤ length s
  pub answers : answers_from s i ≡ Ok it ∷ answers_from s (i + record_length)

-- a moment that is before the end is a record's
moment_of_record : (t m : ℕ) (x : (Result Record Refusal)) → m ≡ moment_in t x → m < at_end → (r : Record) × (x ≡ Ok r) × (when r ≡ m) × (t < m)
moment_of_record t m (Err n) e h = absurd (omega arith)
moment_of_record t m (Ok r) e h = by (ltb t (when r)) refl e
  where
    by : (b : Bool) → ltb t (when r) ≡ b → m ≡ cond b (when r) unsound → (q : Record) × (◌≡◌ {A = (Result Record Refusal)} (Ok r) (Ok q)) × (when q ≡ m) × (t < m)
    by true p e = (r, refl, sym e, omega (arith, ltb-true t (when r) p))
    by false p e = absurd (omega arith)

module _ {s : List ℕ} {i m : ℕ} (p : Standing s i m) where
  -- before the end
  pub standing_found : m < at_end → Found s i m p.last
  standing_found h = by (dec_le (i + record_length) (length s))
    where
      by : Dec (i + record_length ≤ length s) → Found s i m p.last
      by (no n) = absurd (omega (arith, p.moment ∙ ap (next_moment p.last) (from_end s i (omega (arith, n)) p.within)))
      by (yes y) =
          let f = moment_of_record p.last m (read_of (drop i s)) (p.moment ∙ ap (next_moment p.last) (from_step s i y)) h in
          record {
            it = f.0;
            reads = f.1;
            is = f.2;
            after = f.3;
            room = y;
            answers = from_step s i y ∙ ap (λ (x : (Result Record Refusal)). x ∷ answers_from s (i + record_length)) f.1;
          }

  -- the file is sound if what is behind the record is
  pub found_rest : (h : m < at_end) → sound s ≡ sound_after m (answers_from s (i + record_length))
  found_rest h =
      let f = standing_found h in
      p.rest
      ∙ (ap (sound_after p.last) f.answers
      ∙ rw (f.is, lt-ltb p.last m f.after) refl)

  -- and so to the next record
  pub standing_on : (n : ℕ) → m < at_end → n ≡ next_moment m (answers_from s (i + record_length)) → Standing s (i + record_length) n
  standing_on n h e = record { within = (standing_found h).room; last = m; moment = e; rest = found_rest h }

-- past the records the file has ended, and is sound, or it is not
ended : (s : List ℕ) (t m : ℕ) (i : ℕ) → i ≤ length s → m ≡ next_moment t (answers_from s i) → at_end ≤ m
    → ((m ≡ at_end) × (answers_from s i ≡ [])) ⊎ ((m ≡ unsound) × (sound_after t (answers_from s i) ≡ false))
ended s t m i w e h = by (dec_le (i + record_length) (length s))
  where
    tested : (x : (Result Record Refusal)) → x ≡ read_of (drop i s) → m ≡ moment_in t x → (m ≡ unsound) × (sound_after t (x ∷ answers_from s (i + record_length)) ≡ false)
    tested (Err n) q e = (e, refl)
    tested (Ok r) q e = test (ltb t (when r)) e
      where
        test : (b : Bool) → m ≡ cond b (when r) unsound → (m ≡ unsound) × ((b && sound_after (when r) (answers_from s (i + record_length))) ≡ false)
        test true e = absurd (omega (arith, before_end (drop i s) r (sym q)))
        test false e = (e, refl)

    by : Dec (i + record_length ≤ length s) → ((m ≡ at_end) × (answers_from s i ≡ [])) ⊎ ((m ≡ unsound) × (sound_after t (answers_from s i) ≡ false))
    by (no n) = let z = from_end s i (omega (arith, n)) w in inl (e ∙ ap (next_moment t) z, z)
    by (yes y) =
        let z = from_step s i y in
        let r = tested (read_of (drop i s)) refl (e ∙ ap (next_moment t) z) in
        inr (r.0, ap (sound_after t) z ∙ r.1)

module _ {s : List ℕ} {i m : ℕ} (p : Standing s i m) (h : at_end ≤ m) where
  past : ((m ≡ at_end) × (answers_from s i ≡ [])) ⊎ ((m ≡ unsound) × (sound_after p.last (answers_from s i) ≡ false))
  past = ended s p.last m i p.within p.moment h

  pub past_sound : m ≡ at_end → (sound s ≡ true) × (answers_from s i ≡ [])
  past_sound e = by past
    where
      by : ((m ≡ at_end) × (answers_from s i ≡ [])) ⊎ ((m ≡ unsound) × (sound_after p.last (answers_from s i) ≡ false)) → (sound s ≡ true) × (answers_from s i ≡ [])
      by (inl a) = (p.rest ∙ ap (sound_after p.last) a.1, a.1)
      by (inr b) = absurd (omega (arith, b.0, e))

  pub past_unsound : (m ≡ at_end → ⊥) → sound s ≡ false
  past_unsound n = by past
    where
      by : ((m ≡ at_end) × (answers_from s i ≡ [])) ⊎ ((m ≡ unsound) × (sound_after p.last (answers_from s i) ≡ false)) → sound s ≡ false
      by (inl a) = absurd (n a.0)
      by (inr b) = p.rest ∙ b.1

-- ---- the code's tests at a place

module _ (s : List ℕ) (i t : ℕ) where
  pub moment_none : length s < i + record_length → i ≤ length s → at_end ≡ next_moment t (answers_from s i)
  moment_none h k = sym (ap (next_moment t) (from_end s i h k))

  pub moment_there : i + record_length ≤ length s → moment_in t (read_of (drop i s)) ≡ next_moment t (answers_from s i)
  moment_there h = sym (ap (next_moment t) (from_step s i h))

  -- where what is left is sound, it starts with a record
  module _ (h : i + record_length ≤ length s) (e : sound_after t (answers_from s i) ≡ true) where
    starts : (x : (Result Record Refusal)) → sound_after t (x ∷ answers_from s (i + record_length)) ≡ true → (is_record x ≡ true) × (moment_in 0 x ≡ moment_in t x)
    starts (Err n) e = absurd (true≢false (sym e))
    starts (Ok r) e = (refl, by (ltb t (when r)) e)
      where
        by : (b : Bool) → (b && sound_after (when r) (answers_from s (i + record_length))) ≡ true → cond (ltb 0 (when r)) (when r) unsound ≡ cond b (when r) unsound
        by true e = rw (after_zero r) refl
        by false e = absurd (true≢false (sym e))

    read : (is_record (read_of (drop i s)) ≡ true) × (moment_in 0 (read_of (drop i s)) ≡ moment_in t (read_of (drop i s)))
    read = starts (read_of (drop i s)) (sym (ap (sound_after t) (from_step s i h)) ∙ e)

    pub known_reads : is_record (read_of (drop i s)) ≡ true
    known_reads = read.0

    pub known_there : moment_in 0 (read_of (drop i s)) ≡ next_moment t (answers_from s i)
    known_there = read.1 ∙ moment_there h

-- of what reads as the record r
pub moment_known : (s : List ℕ) (r : Record) → ◌≡◌ {A = Result Record Refusal} (Ok r) (read_of s) → when r ≡ moment_in 0 (read_of s)
moment_known s r e =
    let z : when r ≡ moment_in 0 (Ok r) = sym (rw (after_zero r) refl) in
    z ∙ ap (moment_in 0) e
