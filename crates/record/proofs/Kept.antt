-- Writing puts thirty bytes at the front of the buffer or nothing, so what is behind stays. Reading depends on fields and a sum of the first thirty bytes,
-- so it reads them alone in the same way. Assumes nothing.
use Rattle.std.proofs.Common.{◌≡◌, ℕ, ◌+◌, ◌≤◌, List, length, take, ℤ, ap, arith, length-take-le, take_all, ltb-false, le-ltb}
use native.Mathlib.Decide.{dec_le}
use Rattle.bigendian.proofs.Numbers.{number_take, sum_take}
use Rattle.bigendian.proofs.Buffers.{Keeps, kept, front_keeps}
use Rattle.instants.proofs.FirstRefusal.{none_both, in_each, refused_same}
use Rattle.instants.specs.Instants.{instant_cases}
use Rattle.clock.specs.Words.{time_word, words}
use Rattle.bigendian.specs.declared.Field.{Field}
use Rattle.bigendian.specs.Fields.{field_at}
use Rattle.record.specs.Format.{record_length, length_field, version_field, zero_field, day_field, time_field, ut1_field, lod_field, rate_field}
use Rattle.record.specs.Records.{room_cases, write_cases, write_refusal, written, read_of}
use Rattle.record.proofs.Written.{record_length_lem}

-- A refused write leaves every byte of the buffer as it was.
pub refused_unchanged : (d : ℤ) (m : ℕ) (ut1 lod rate : ℤ) (old : List ℕ) → (write_refusal d m (length old) ≡ 0 → ⊥) → written d m ut1 lod rate old ≡ old
unfolding write_refusal written
refused_unchanged d m ut1 lod rate old h = refused_same old (write_cases d m (length old)) _ h

-- PROMISE. Writing keeps every byte past byte 29, and the buffer stays as long as it is.
pub write_keeps : (d : ℤ) (m : ℕ) (ut1 lod rate : ℤ) (old : List ℕ) → Keeps record_length old (written d m ut1 lod rate old)
unfolding written
write_keeps d m ut1 lod rate old =
    in_each (λ _. old) (Keeps record_length old) (write_cases d m (length old)) _ (λ n. kept _ old)
    (λ h.
    let r = (none_both (instant_cases d m) (room_cases (length old)) h).1 in
    front_keeps _ old _ (record_length_lem (words d (time_word d m)) ut1 lod rate) (ltb-false (length old) record_length r.0))

-- ---- reading

module _ (s : List ℕ) (h : record_length ≤ length s) where
  abbrev t : List ℕ
  t = take record_length s

  same : (f : Field) → f.at + f.size ≤ record_length → field_at t f ≡ field_at s f
  same f l = number_take s record_length f.at f.size l

  front : read_of t ≡ read_of s
  unfolding read_of
  front =
      simp (
        le-ltb (length t) record_length (omega (arith, length-take-le record_length s h)),
        le-ltb (length s) record_length h,
        same version_field (omega arith),
        same length_field (omega arith),
        same zero_field (omega arith),
        sum_take s record_length 15 (omega arith),
        same day_field (omega arith),
        same time_field (omega arith),
        same ut1_field (omega arith),
        same lod_field (omega arith),
        same rate_field (omega arith),
      )

-- PROMISE. Reading looks at the first thirty bytes and no others.
pub read_front : (s : List ℕ) → read_of (take record_length s) ≡ read_of s
read_front s = by (dec_le record_length (length s))
  where
    by : Dec (record_length ≤ length s) → read_of (take record_length s) ≡ read_of s
    by (yes h) = front s h
    by (no h) = ap read_of (take_all record_length s (omega (arith, h)))
