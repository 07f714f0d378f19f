-- Bytes that read as a record, with no test left: they are long enough, the record is that of their fields, its instant is accepted, and its numbers fit four bytes.
-- Assumes nothing.
use Rattle.std.proofs.Common.{◌≡◌, ℕ, ◌-◌, ◌/◌, ◌%◌, ◌^◌, ◌≤◌, Bool, true, false, cond, ltb, List, length, pos, negsuc, sym, refl, ◌∙◌, true≢false, arith, w32, SFits, ltb-false, ltb-true}
use Rattle.instants.specs.Instants.{instant, IsAccepted}
use Rattle.instants.proofs.Impossible.{impossible}
use Rattle.instants.proofs.FirstRefusal.{answered_none}
use Rattle.instants.proofs.Accepted.{accepted}
use Rattle.clock.specs.Words.{mark_unit}
use Rattle.clock.proofs.Words.{was_split, split_accepted, join_then_split}
use Rattle.bigendian.specs.Numbers.{signed_of}
use Rattle.bigendian.specs.Fields.{field_at}
use Rattle.record.specs.declared.Record.{Record}
use Rattle.record.specs.Format.{record_length, day_field, time_field, ut1_field, lod_field, rate_field}
use Rattle.record.specs.Records.{read_cases, record_of, read_of, is_record}
use Rattle.record.proofs.Forms.{WasRead, was_read}
use Rattle.record.proofs.Written.{day_fits}
use Rattle.std.specs.Prelude.{Result, Ok, Err}
use Rattle.instants.specs.declared.refusal.Refusal.{Refusal}

-- the record of bytes whose fields are not refused
abbrev record_there : List ℕ → Record
record_there s = record_of (instant (pos (field_at s day_field)) (field_at s time_field % mark_unit)) s

-- an answer that is a record
pub is_record_lem : (a : (Result Record Refusal)) → is_record a ≡ true → (r : Record) × (a ≡ Ok r)
is_record_lem (Ok r) e = (r, refl)
is_record_lem (Err n) e = absurd (true≢false (sym e))

-- what reads is the record of its fields
pub known_record : (s : List ℕ) → is_record (read_of s) ≡ true → read_of s ≡ Ok (record_there s)
unfolding read_of
known_record s e =
    let q = is_record_lem (read_of s) e in
    let a = answered_none Err (read_cases s) (Ok (record_there s)) (Ok q.0) (λ n p. impossible (cc)) q.1 in
    q.1 ∙ sym a.1

-- what two's complement in four bytes gives fits them
signed_fits : (n : ℕ) → SFits w32 (signed_of 4 n)
signed_fits n = by (ltb n (256 ^ 4 / 2)) refl
  where
    by : (b : Bool) → ltb n (256 ^ 4 / 2) ≡ b → SFits w32 (cond b (pos n) (negsuc (256 ^ 4 - 1 - n)))
    by true p = record { sfits = omega (arith, ltb-true n (256 ^ 4 / 2) p) }
    by false p = record { sfits = omega (arith, ltb-false n (256 ^ 4 / 2) p) }

module _ (s : List ℕ) (r : Record) (e : read_of s ≡ Ok r) where
  w : WasRead s r
  w = was_read s r e

  pub read_long : record_length ≤ length s
  read_long = w.form.long

  -- its instant was joined from two words, and so it is accepted
  pub read_accepted : IsAccepted r.day r.micros
  read_accepted =
      let j = (was_split _ _ _ (join_then_split _ _ w.instant w.join)).accepted in
      rw w.is (accepted _ _ j.inside j.less)

  -- and its day number fits four bytes
  pub read_day_fits : SFits w32 r.day
  read_day_fits = day_fits _ _ _ (split_accepted _ _ read_accepted)

  -- and so do the three numbers
  pub read_numbers_fit : SFits w32 r.ut1 × SFits w32 r.lod × SFits w32 r.rate
  read_numbers_fit = rw w.is (signed_fits (field_at s ut1_field), signed_fits (field_at s lod_field), signed_fits (field_at s rate_field))
