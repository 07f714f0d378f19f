-- Bytes that read as a record, written again: each field's number gives the field's bytes back, so the bytes up to the check word are the same,
-- and so is the word that makes their sum 0. Assumes nothing.
use Rattle.std.proofs.Common.{◌≡◌, ℕ, ◌+◌, ◌%◌, ◌<◌, ◌≤◌, List, ◌++◌, length, take, drop, pos, sym, refl, ap, ◌∙◌, arith, length-take-le, le-ltb}
use Rattle.bigendian.specs.Numbers.{Bytes, word_sum}
use Rattle.bigendian.specs.Buffers.{at_front}
use Rattle.bigendian.proofs.Numbers.{number_below, sum_next, sum_take}
use Rattle.bigendian.proofs.Fields.{field_bytes_lem, signed_field, field_on}
use Rattle.bigendian.proofs.Buffers.{front_is}
use Rattle.instants.proofs.Accepted.{accepted}
use Rattle.clock.specs.declared.ClockWords.{ClockWords}
use Rattle.clock.specs.Words.{split_of, words}
use Rattle.clock.proofs.Words.{was_split, join_then_split}
use Rattle.record.specs.declared.Record.{Record}
use Rattle.bigendian.specs.declared.Field.{Field}
use Rattle.bigendian.specs.Fields.{field_at, signed_at, in_field, signed_in}
use Rattle.record.specs.Format.{record_length, length_field, version_field, zero_field, day_field, time_field, ut1_field, lod_field, rate_field, check_field, field_bytes, negated, record_bytes}
use Rattle.record.specs.Records.{write_refusal, written, read_of}
use Rattle.record.proofs.Written.{written_is}
use Rattle.record.proofs.Forms.{Formed, WasRead, was_read}
use Rattle.std.specs.Prelude.{Ok}

-- a word that makes the sum 0 is the sum negated
negated_is : (x n : ℕ) → (x + n) % 0x1_0000 ≡ 0 → n < 0x1_0000 → negated x ≡ n
negated_is x n e h = omega arith

module _ (s : List ℕ) (b : Bytes s) (f : Formed s) where
  abbrev w : ClockWords
  w = words (pos (field_at s day_field)) (field_at s time_field)

  -- the bytes of the number in a field are those at its place
  number : (g : Field) {n : ℕ} → g.at + g.size ≤ record_length → n ≡ field_at s g → in_field g n ≡ take g.size (drop g.at s)
  number g h e = field_bytes_lem s g b (omega (arith, f.long)) e

  signed : (g : Field) → g.at + g.size ≤ record_length → signed_in g (signed_at s g) ≡ take g.size (drop g.at s)
  signed g h = signed_field s g b (omega (arith, f.long)) refl

  fields_are : field_bytes w (signed_at s ut1_field) (signed_at s lod_field) (signed_at s rate_field) ≡ take check_field.at s
  fields_are =
      field_on s rate_field (field_on s lod_field (field_on s ut1_field (field_on s time_field (field_on s day_field (field_on s zero_field (field_on s version_field
      (number length_field (omega arith) (sym f.size))
      (number version_field (omega arith) (sym f.version)))
      (number zero_field (omega arith) (sym f.zero_byte)))
      (number day_field (omega arith) refl))
      (number time_field (omega arith) refl))
      (signed ut1_field (omega arith)))
      (signed lod_field (omega arith)))
      (signed rate_field (omega arith))

  check_is : negated (word_sum (take check_field.at s) 14) ≡ field_at s check_field
  check_is =
      ap negated (sum_take s check_field.at 14 (omega arith))
      ∙ negated_is (word_sum s 14) (field_at s check_field) (ap (λ (x : ℕ). x % 0x1_0000) (sym (sum_next s 14)) ∙ f.zero_sum) (number_below s check_field.at check_field.size b)

  bytes_are : record_bytes w (signed_at s ut1_field) (signed_at s lod_field) (signed_at s rate_field) ≡ take record_length s
  unfolding record_bytes
  bytes_are =
      ap (λ (l : List ℕ). l ++ in_field check_field (negated (word_sum l 14))) fields_are
      ∙ field_on s check_field refl (number check_field (omega arith) check_is)

-- PROMISE. What thirty bytes gave when read, written into any thirty bytes or more, makes the same thirty bytes.
pub written_again : (s : List ℕ) (r : Record) (old : List ℕ) → Bytes s → read_of s ≡ Ok r → record_length ≤ length old
    → (write_refusal r.day r.micros (length old) ≡ 0) × (written r.day r.micros r.ut1 r.lod r.rate old ≡ take record_length s ++ drop record_length old)
unfolding write_refusal
written_again s r old b e h =
    let v : WasRead s r = was_read s r e in
    let p : split_of r.day r.micros ≡ Ok (w s b v.form) =
    ap (λ (x : Record). split_of x.day x.micros) v.is ∙ join_then_split _ _ v.instant v.join in
    let q : record_bytes (w s b v.form) r.ut1 r.lod r.rate ≡ take record_length s = rw v.is (bytes_are s b v.form) in
    let k = was_split _ _ _ p in (
      simp (k.accepted.inside, k.accepted.within, le-ltb (length old) record_length h),
      written_is r.day r.micros _ _ _ old (accepted _ _ k.accepted.inside k.accepted.less) h
          ∙ (ap (λ (l : List ℕ). at_front l old) (ap (λ (x : ClockWords). record_bytes x r.ut1 r.lod r.rate) (sym k.is) ∙ q)
          ∙ front_is (take record_length s) old record_length (length-take-le record_length s v.form.long)),
    )
