-- The records of a run: what one record's call writes, the records one behind the other, and the buffer after them and between them. Each record is
-- thirty bytes, so k of them end where record k begins, and a call that is lent the rest adds one (front_more). Assumes nothing.
use Prim.Native.Nat.{ℕ, zero, suc, ◌+◌, ◌-◌, ◌*◌, ◌≤◌, ◌<◌}
use mathlib.Core.Path.{◌≡◌, refl, ap, sym, ◌∙◌}
use mathlib.Core.List.{List, [], ◌++◌, append-nil}
use native.Mathlib.Numerals.{add-one}
use native.Mathlib.Omega.{arith}
use lib.IntN.{ℤ}
use lib.ListN.{length, take, drop, length-append, length-drop}
use lib.Seq.{take_all, drop-length}
use borrow.Author.Tests.{ltb-false}
use Rattle.bigendian.specs.Buffers.{at_front}
use Rattle.bigendian.proofs.Buffers.{Keeps, kept, front_keeps, front_length, front_take, front_behind, front_more}
use Rattle.instants.specs.declared.refusal.Refusal.{Refusal}
use Rattle.instants.specs.Instants.{instant_cases, IsAccepted, later_day, later_micros}
use Rattle.instants.proofs.Impossible.{impossible}
use Rattle.instants.proofs.FirstRefusal.{none_both, in_each, refused_alike, none_answered, refused_same, refused_checked, first_none}
use Rattle.record.specs.Format.{record_length}
use Rattle.record.specs.Records.{written}
use Rattle.record.proofs.Written.{written_is, record_length_lem}
use Rattle.zonal.specs.declared.Corrections.{Corrections}
use Rattle.zonal.specs.Ours.{zonal_of}
use Rattle.run.specs.Run.{end_cases, run_cases, run_refusal, record_at, run_bytes, run_written}
use Rattle.run.specs.Inner.{written_at}
use Rattle.run.proofs.Refusals.{run_checked}
use Rattle.instants.specs.Refusals.{check, refusal_of}
use Rattle.std.specs.Prelude.{Ok, Err, ⊤}

-- the record of an accepted instant, written at the front of a buffer with room for it
written_accepted : (d : ℤ) (m : ℕ) (old : List ℕ) → IsAccepted d m → record_length ≤ length old → written_at d m old ≡ at_front (record_at d m) old
unfolding written_at record_at
written_accepted d m old a h = written_is d m _ _ _ old a h

-- an instant without corrections has no record
pub written_refused : (d : ℤ) (m : ℕ) (n : Refusal) (old : List ℕ) → zonal_of d m ≡ Err n → old ≡ written_at d m old
unfolding written_at written zonal_of
written_refused d m n old e = sym (refused_alike Err (λ _. old) (instant_cases d m) _ _ n (λ k p. cc) (λ p. impossible (cc)) e)

-- and one with corrections has that of its numbers
pub written_given : (d : ℤ) (m : ℕ) (c : Corrections) (old : List ℕ) → zonal_of d m ≡ Ok c → written d m c.ut1 c.lod c.rate old ≡ written_at d m old
unfolding written_at
written_given d m c old e = rw e refl

-- ---- the records one behind the other

pub thirty : (d : ℤ) (m : ℕ) → length (record_at d m) ≡ record_length
unfolding record_at
thirty d m = record_length_lem _ _ _ _

-- The first k records of a run are 30 * k bytes.
pub run_length : (d : ℤ) (m step k : ℕ) → length (run_bytes d m step k) ≡ record_length * k
unfolding run_bytes
run_length d m step zero = refl
run_length d m step (suc k) =
    let h : length (run_bytes d m step k) ≡ record_length * k = run_length d m step k in
    let r : length (record_at (later_day d m (k * step)) (later_micros m (k * step))) ≡ record_length = thirty (later_day d m (k * step)) (later_micros m (k * step)) in
    simp length-append (omega arith)

-- ---- the buffer afterwards

-- A run that is refused leaves every byte of the buffer as it was.
pub refused_unchanged : (d : ℤ) (m count step : ℕ) (old : List ℕ) → (run_refusal d m count step (length old) ≡ 0 → ⊥) → run_written d m count step old ≡ old
unfolding run_refusal run_written
refused_unchanged d m count step old h = refused_same old (run_cases d m count step (length old)) _ h

-- a run that is not refused has its records at the front
pub run_written_lem : (d : ℤ) (m count step : ℕ) (old : List ℕ) → run_refusal d m count step (length old) ≡ 0 → run_written d m count step old ≡ at_front (run_bytes d m step count) old
unfolding run_refusal run_written
run_written_lem d m count step old e = let cs = run_cases d m count step (length old) in none_answered (λ _. old) cs _ (first_none cs e)

-- the buffer beside a refusal of the run's test, and where that passes
pub run_refused : (d : ℤ) (m count step : ℕ) (old : List ℕ) {r : Refusal} → check (run_cases d m count step (length old)) ≡ Err r → run_written d m count step old ≡ old
unfolding run_written
run_refused d m count step old {r} e = refused_checked (λ _. old) (run_cases d m count step (length old)) _ r e

pub run_passed : (d : ℤ) (m count step : ℕ) (old : List ℕ) {u : ⊤} → check (run_cases d m count step (length old)) ≡ Ok u
    → (run_refusal d m count step (length old) ≡ 0) × (run_written d m count step old ≡ at_front (run_bytes d m step count) old)
run_passed d m count step old {u} e =
    let n : run_refusal d m count step (length old) ≡ 0 = sym (run_checked d m count step (length old)) ∙ ap refusal_of e in
    (n, run_written_lem d m count step old n)

-- PROMISE. A run leaves the buffer as long as it is, and every byte behind its records as it was.
pub run_keeps : (d : ℤ) (m count step : ℕ) (old : List ℕ) → Keeps (record_length * count) old (run_written d m count step old)
unfolding run_written
run_keeps d m count step old =
    in_each (λ _. old) (Keeps (record_length * count) old) (run_cases d m count step (length old)) _ (λ n. kept _ old)
    (λ h.
    let e = (none_both (instant_cases d m) (end_cases d m count step (length old)) h.1.1).1 in
    front_keeps (run_bytes d m step count) old _ (run_length d m step count) (ltb-false (length old) (record_length * count) e.1.0))

-- What stands in the buffer when k of count records have been written: these at its front.
pub record Filled (d : ℤ) (m count step : ℕ) (old s : List ℕ) (k : ℕ) : Type 0 where
  pub most : k ≤ count
  pub room : record_length * count ≤ length old
  pub bytes : s ≡ at_front (run_bytes d m step k) old

module _ {d : ℤ} {m count step : ℕ} {old s : List ℕ} {k : ℕ} (f : Filled d m count step old s k) where
  -- the place of the next record
  abbrev at : ℕ
  at = record_length * k

  long : length (run_bytes d m step k) ≡ at
  long = run_length d m step k

  front : take at s ≡ run_bytes d m step k
  front = rw f.bytes (front_take (run_bytes d m step k) old at long)

  behind : drop at s ≡ drop at old
  behind = rw f.bytes (front_behind (run_bytes d m step k) old at long)

  -- the part of the buffer that is lent for the next record is all from there on
  lent : take (length s - at) (drop at s) ≡ drop at old
  lent = take_all (length s - at) (drop at s) (omega (arith, length-drop at s)) ∙ behind

  unlent : drop (length s - at) (drop at s) ≡ []
  unlent = ap (λ (n : ℕ). drop n (drop at s)) (sym (length-drop at s)) ∙ drop-length (drop at s)

  -- one more record is written over the part
  pub filled_more : k < count → IsAccepted (later_day d m (k * step)) (later_micros m (k * step))
      → (ys : List ℕ) → ys ≡ written_at (later_day d m (k * step)) (later_micros m (k * step)) (take (length s - at) (drop at s))
      → Filled d m count step old (take at s ++ (ys ++ drop (length s - at) (drop at s))) (k + 1)
  unfolding run_bytes
  filled_more h a ys e =
      let r : List ℕ = record_at (later_day d m (k * step)) (later_micros m (k * step)) in
      let n : record_length ≤ length (drop at old) = omega (arith, length-drop at old, f.room) in
      let w : ys ≡ at_front r (drop at old) = e ∙ (ap (written_at (later_day d m (k * step)) (later_micros m (k * step))) lent ∙ written_accepted _ _ (drop at old) a n) in
      let o : run_bytes d m step (k + 1) ≡ run_bytes d m step k ++ r = ap (run_bytes d m step) (add-one k) in
      record {
        most = omega arith;
        room = f.room;
        bytes = rw (front, unlent, append-nil, w, o) (sym (front_more (run_bytes d m step k) r old at long));
      }
