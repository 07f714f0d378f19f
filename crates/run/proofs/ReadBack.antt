-- Each record of a run stands at its place and reads back: the run's bytes are those of the k records before, thirty each, then record k, then the rest,
-- and record k is one that was written at an accepted instant. Assumes nothing.
use Prim.Native.Nat.{ℕ, zero, suc, ◌*◌, ◌<◌, ◌≤◌}
use mathlib.Core.Path.{◌≡◌, refl, ap, ◌∙◌}
use mathlib.Core.List.{List, [], ◌++◌, append_assoc, append-nil}
use native.Mathlib.Decide.{dec_lt}
use native.Mathlib.Nat.{not-suc-le-zero}
use native.Mathlib.Omega.{arith}
use lib.IntN.{ℤ}
use lib.ListN.{length, take, drop}
use lib.Seq.{take_at, drop_at}
use borrow.Author.Tests.{le-ltb}
use Rattle.algebra.specs.Integers.{+◌}
use Rattle.bigendian.proofs.Buffers.{front_more}
use Rattle.instants.specs.Instants.{outside, day_index, IsAccepted, later_day, later_micros}
use Rattle.record.specs.Format.{record_length}
use Rattle.record.proofs.Round.{read_back_lem}
use Rattle.zonal.specs.declared.Corrections.{Corrections}
use Rattle.zonal.specs.Within.{promised, Answered}
use Rattle.zonal.proofs.Promises.{accepted_answered, given_accepted}
use Rattle.zonal.proofs.Sizes.{Fit, corrections_fit}
use Rattle.zonal.proofs.Worked.{no_constant}
use Rattle.run.specs.Run.{run_refusal, record_at, run_bytes, run_written}
use Rattle.run.specs.ReadBack.{ReadsAt}
use Rattle.run.proofs.Refusals.{run_accepted}
use Rattle.run.proofs.Records.{thirty, run_length, run_written_lem}

-- ---- the place of a record

-- the records behind record k
record Behind (d : ℤ) (m step n k : ℕ) : Type 0 where
  rest : List ℕ
  whole : run_bytes d m step n ≡ run_bytes d m step k ++ (record_at (later_day d m (k * step)) (later_micros m (k * step)) ++ rest)

behind : (d : ℤ) (m step n k : ℕ) → k < n → Behind d m step n k
unfolding run_bytes
behind d m step zero k h = absurd (not-suc-le-zero h)
behind d m step (suc n) k h = by (dec_lt k n) (λ l. behind d m step n k l)
  where
    by : Dec (k < n) → (k < n → Behind d m step n k) → Behind d m step (suc n) k
    by (yes l) f =
        let r : List ℕ = record_at (later_day d m (n * step)) (later_micros m (n * step)) in
        record { rest = (f l).rest ++ r; whole = ap (λ (x : List ℕ). x ++ r) (f l).whole ∙ simp append_assoc }
    by (no l) f =
        let e : n ≡ k = omega (arith, l) in
        record { rest = []; whole = rw (e, append-nil) refl }

-- PROMISE. Record k of a run that is not refused fills the bytes 30 * k to 30 * k + 29 of the buffer.
pub record_place : (d : ℤ) (m count step : ℕ) (old : List ℕ) → run_refusal d m count step (length old) ≡ 0 → (k : ℕ) → k < count
    → take record_length (drop (record_length * k) (run_written d m count step old)) ≡ record_at (later_day d m (k * step)) (later_micros m (k * step))
record_place d m count step old e k h =
    let b : Behind d m step count k = behind d m step count k h in
    let r : List ℕ = record_at (later_day d m (k * step)) (later_micros m (k * step)) in
    rw (
      run_written_lem d m count step old e,
      b.whole,
      front_more (run_bytes d m step k) (r ++ b.rest) old (record_length * k) (run_length d m step k),
      drop_at (run_bytes d m step k) _ (record_length * k) (run_length d m step k),
      front_more r b.rest _ record_length (thirty _ _),
    )
    (take_at r _ record_length (thirty _ _))

-- ---- reading back

-- the record of an accepted instant reads as the numbers of its corrections
record_reads : (d : ℤ) (m : ℕ) → IsAccepted d m → ReadsAt d m (record_at d m)
unfolding record_at
record_reads d m a = by (accepted_answered d m a)
  where
    by : Answered promised d m → ReadsAt d m (record_at d m)
    by w =
        let f : Fit w.numbers = rw (given_accepted d m w.numbers w.given).1 (corrections_fit (day_index d) m) in
        let b = read_back_lem d m w.numbers.ut1 w.numbers.lod w.numbers.rate [] a f.ut1 f.lod f.rate in
        record { answered = w; reads = rw w.given (simp append-nil at b) }

-- PROMISE. Record k of a run that is not refused reads back as the instant that is k steps after the start, and as the numbers of service (e)
-- there, within 5, 50 and 5 of the exact sums.
pub run_reads : (d : ℤ) (m count step : ℕ) (old : List ℕ) → run_refusal d m count step (length old) ≡ 0 → (k : ℕ) → k < count
    → ReadsAt (later_day d m (k * step)) (later_micros m (k * step)) (take record_length (drop (record_length * k) (run_written d m count step old)))
run_reads d m count step old e k h = rw (record_place d m count step old e k h) (record_reads _ _ (run_accepted d m count step (length old) e k h))

-- Records of day 54465 and of day 54466, at microsecond 0, differ in each of the three numbers: a run that puts the corrections of its
-- first record into the others is none of ours.
pub not_copied : {s s' : List ℕ} (x : ReadsAt (+ 54465) 0 s) (y : ReadsAt (+ 54466) 0 s') →
    let a : Corrections = x.answered.numbers in
    let b : Corrections = y.answered.numbers in
    (a.ut1 ≡ b.ut1 → ⊥) × (a.lod ≡ b.lod → ⊥) × (a.rate ≡ b.rate → ⊥)
not_copied x y = no_constant x.answered.numbers y.answered.numbers x.answered.within y.answered.within

-- PROMISE. There are runs that are not refused: ninety-six records from day 54465 on, a quarter of an hour apart or a day apart.
pub some_not_refused : (n : ℕ) → record_length * 96 ≤ n → (run_refusal (+ 54465) 0 96 900_000_000 n ≡ 0) × (run_refusal (+ 54465) 0 96 86_400_000_000 n ≡ 0)
unfolding run_refusal outside
some_not_refused n h = simp (le-ltb n (record_length * 96) h) (refl, refl)
