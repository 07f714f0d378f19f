-- What writing gives, return by return of the code: the instant is refused, the buffer is short, or the record stands at its front.
-- Assumes nothing.
use Rattle.std.proofs.Common.{◌≡◌, ℕ, suc, ◌-◌, ◌^◌, ◌<◌, ◌≤◌, Bool, true, false, cond, ltb, List, length, ℤ, pos, negsuc, ◌-ℤ◌, sym, refl, ap, ◌∙◌, arith, w32, SFits, le-ltb, lt-ltb}
use Rattle.bigendian.specs.Buffers.{at_front}
use Rattle.instants.specs.Refusals.{refused_or, check}
use Rattle.instants.specs.Instants.{day_index, instant_cases, IsAccepted}
use Rattle.instants.proofs.Impossible.{impossible}
use Rattle.instants.proofs.FirstRefusal.{refused_alike}
use Rattle.instants.proofs.Accepted.{accepted_at}
use Rattle.clock.specs.declared.ClockWords.{ClockWords}
use Rattle.clock.specs.Words.{time_word, words, split_of}
use Rattle.clock.proofs.Words.{WasSplit, was_split}
use Rattle.record.specs.Format.{record_length, record_bytes}
use Rattle.instants.specs.Limits.{index_offset}
use Rattle.record.specs.Records.{write_cases, written}
use Rattle.std.specs.Prelude.{Ok, Err}
use Rattle.instants.specs.declared.refusal.Refusal.{Refusal}
use Rattle.instants.specs.declared.refusal.Refusal.TheVariants.{BufferShort}

pub record_length_lem : (w : ClockWords) (ut1 lod rate : ℤ) → length (record_bytes w ut1 lod rate) ≡ record_length
unfolding record_bytes
record_length_lem w ut1 lod rate = refl

-- the buffer after a record of an accepted instant
pub written_is : (d : ℤ) (m : ℕ) (ut1 lod rate : ℤ) (old : List ℕ) → IsAccepted d m → record_length ≤ length old → written d m ut1 lod rate old ≡ at_front (record_bytes (words d (time_word d m)) ut1 lod rate) old
unfolding written
written_is d m ut1 lod rate old a h = let k = accepted_at d m _ a in simp (k.inside, k.within, le-ltb (length old) record_length h)

-- ---- the code's returns

module _ (d : ℤ) (m : ℕ) (ut1 lod rate : ℤ) (old : List ℕ) where
  pub refused : (n : Refusal) → split_of d m ≡ Err n → (Err n ≡ check (write_cases d m (length old))) × (old ≡ written d m ut1 lod rate old)
  unfolding split_of written
  refused n e = (by Err _, by (λ _. old) _)
    where
      by : {A : Type 0} (refuse : Refusal → A) (a : A) → refuse n ≡ refused_or refuse (instant_cases d m) a
      by refuse a = sym (refused_alike Err refuse (instant_cases d m) _ a n (λ k p. cc) (λ p. impossible (cc)) e)

  pub short : (w : ClockWords) → split_of d m ≡ Ok w → length old < record_length → (Err BufferShort ≡ check (write_cases d m (length old))) × (old ≡ written d m ut1 lod rate old)
  unfolding written
  short w e h = let k = (was_split d m w e).accepted in simp (k.inside, k.within, lt-ltb (length old) record_length h) (refl, refl)

  -- all of l, which is the record, is copied over the front of the buffer
  pub done : (w : ClockWords) (l : List ℕ) → split_of d m ≡ Ok w → record_length ≤ length old → l ≡ record_bytes w ut1 lod rate
      → (Ok tt ≡ check (write_cases d m (length old))) × (at_front l old ≡ written d m ut1 lod rate old)
  unfolding written
  done w l e h q =
      let k = was_split d m w e in
      simp (k.accepted.inside, k.accepted.within, le-ltb (length old) record_length h) (refl, ap (λ (b : List ℕ). at_front b old) (q ∙ ap (λ (x : ClockWords). record_bytes x ut1 lod rate) k.is))

-- the day number of an index below 2^31, -index_offset or later, fits 32 bits
day_word : (i : ℕ) → i < 2 ^ 31 → SFits w32 (pos i -ℤ pos index_offset)
day_word i h = by (ltb i index_offset) refl
  where
    by : (t : Bool) → ltb i index_offset ≡ t → SFits w32 (cond t (negsuc (index_offset - suc i)) (pos (i - index_offset)))
    by true p = record { sfits = omega arith }
    by false p = record { sfits = omega arith }

pub day_fits : (d : ℤ) (m : ℕ) (w : ClockWords) → split_of d m ≡ Ok w → SFits w32 w.day
day_fits d m w e =
    let s : WasSplit d m w = was_split d m w e in
    rw (s.is, s.accepted.is) (day_word (day_index d) (omega (arith, s.accepted.high)))
