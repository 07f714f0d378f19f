-- Service (g): one record written, one read.
use Rattle.std.specs.Prelude.{ℕ, ◌%◌, Bool, true, false, not, List, [], ◌∷◌, ◌++◌, length, ℤ, pos, ◌==◌, nat_lt, Result, Ok, Err}
use Rattle.bigendian.specs.Numbers.{word_sum}
use Rattle.bigendian.specs.Buffers.{at_front}
use Rattle.instants.specs.declared.Instant.{Instant}
use Rattle.instants.specs.Refusals.{Case, case, refused_or, first_refusal, refusal_of}
use Rattle.instants.specs.Instants.{instant, instant_cases}
use Rattle.clock.specs.Words.{mark_unit, time_word, words, join_cases}
use Rattle.record.specs.declared.Record.{Record}
use Rattle.bigendian.specs.Fields.{field_at, signed_at}
use Rattle.record.specs.Format.{record_length, version, length_field, version_field, zero_field, day_field, time_field, ut1_field, lod_field, rate_field, record_bytes}
use Rattle.instants.specs.declared.refusal.Refusal.{Refusal}
use Rattle.instants.specs.declared.refusal.Refusal.TheVariants.{BufferShort, RecordLength, RecordVersion, RecordZero, RecordSum}

-- the record of the instant d, m and three numbers
abbrev pub record_with : ℤ → ℕ → (ut1 lod rate : ℤ) → Record
record_with d m ut1 lod rate = record { day = d; micros = m; ut1 = ut1; lod = lod; rate = rate }

-- the refusal of n bytes, to write into or to read: a record needs thirty
abbrev pub room_cases : ℕ → List Case
room_cases n = case BufferShort (nat_lt n record_length) ∷ []

-- ---- writing

-- the refusals of a record of the instant d, m in n bytes: of the instant, and of the buffer
abbrev pub write_cases : ℤ → ℕ → ℕ → List Case
write_cases d m n = instant_cases d m ++ room_cases n

-- the first refusal of writing, or 0
unfoldable pub write_refusal : ℤ → ℕ → ℕ → ℕ
write_refusal d m n = first_refusal (write_cases d m n)

-- the buffer afterwards: as it was on a refusal, else with the record at its front
unfoldable pub written : ℤ → ℕ → (ut1 lod rate : ℤ) → List ℕ → List ℕ
written d m ut1 lod rate old =
    refused_or (λ _. old) (write_cases d m (length old)) (at_front (record_bytes (words d (time_word d m)) ut1 lod rate) old)

-- ---- reading

-- the refusals of a record's head: of its length, and of the first four bytes
abbrev pub head_cases : List ℕ → List Case
head_cases s =
    room_cases (length s)
    ++ case RecordVersion (not (field_at s version_field == version))
    ∷ case RecordLength (not (field_at s length_field == record_length))
    ∷ case RecordZero (not (field_at s zero_field == 0))
    ∷ []

-- the refusals of the bytes' form: of the head, and of the sum
abbrev pub form_cases : List ℕ → List Case
form_cases s = head_cases s ++ case RecordSum (not (word_sum s 15 % 65536 == 0)) ∷ []

-- the refusals of reading: of the form, and of the clock words
abbrev pub read_cases : List ℕ → List Case
read_cases s = form_cases s ++ join_cases (pos (field_at s day_field)) (field_at s time_field)

-- an instant with the three numbers in s
abbrev pub record_of : Instant → List ℕ → Record
record_of t s = record_with t.day t.micros (signed_at s ut1_field) (signed_at s lod_field) (signed_at s rate_field)

-- the record that the first thirty bytes of s are, or its refusal
unfoldable pub read_of : List ℕ → Result Record Refusal
read_of s = refused_or Err (read_cases s) (Ok (record_of (instant (pos (field_at s day_field)) (field_at s time_field % mark_unit)) s))

-- an answer is a record
abbrev pub is_record : Result Record Refusal → Bool
is_record (Ok r) = true
is_record (Err n) = false

-- ---- the numbers of an answer

-- each, or z where it is a refusal: what the call of the whole answer leaves where z was
abbrev pub record_day_or : ℤ → Result Record Refusal → ℤ
record_day_or z (Ok r) = r.day
record_day_or z (Err n) = z

abbrev pub record_micros_or : ℕ → Result Record Refusal → ℕ
record_micros_or z (Ok r) = r.micros
record_micros_or z (Err n) = z

abbrev pub record_ut1_or : ℤ → Result Record Refusal → ℤ
record_ut1_or z (Ok r) = r.ut1
record_ut1_or z (Err n) = z

abbrev pub record_lod_or : ℤ → Result Record Refusal → ℤ
record_lod_or z (Ok r) = r.lod
record_lod_or z (Err n) = z

abbrev pub record_rate_or : ℤ → Result Record Refusal → ℤ
record_rate_or z (Ok r) = r.rate
record_rate_or z (Err n) = z

-- what the call of one number gives: 0 beside a refusal
abbrev pub record_day_of : Result Record Refusal → ℤ
record_day_of = record_day_or (pos 0)

abbrev pub record_micros_of : Result Record Refusal → ℕ
record_micros_of = record_micros_or 0

abbrev pub record_ut1_of : Result Record Refusal → ℤ
record_ut1_of = record_ut1_or (pos 0)

abbrev pub record_lod_of : Result Record Refusal → ℤ
record_lod_of = record_lod_or (pos 0)

abbrev pub record_rate_of : Result Record Refusal → ℤ
record_rate_of = record_rate_or (pos 0)

-- the refusal number, 0 for none
abbrev pub read_refusal_of : Result Record Refusal → ℕ
read_refusal_of = refusal_of
