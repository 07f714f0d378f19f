-- The record, version 1: thirty bytes, every number big-endian.
use Rattle.std.specs.Prelude.{ℕ, ◌-◌, ◌%◌, List, ◌++◌, ℤ}
use Rattle.bigendian.specs.Numbers.{word_sum}
use Rattle.bigendian.specs.declared.Field.{Field}
use Rattle.bigendian.specs.Fields.{field, in_field, signed_in}
use Rattle.clock.specs.declared.ClockWords.{ClockWords}

-- the bytes of a record
abbrev pub record_length : ℕ
record_length = 30

-- the version that is written and read
abbrev pub version : ℕ
version = 1

-- ---- the fields

-- the record's length
abbrev pub length_field : Field
length_field = field 0 2

-- the version
abbrev pub version_field : Field
version_field = field 2 1

-- a byte that is 0
abbrev pub zero_field : Field
zero_field = field 3 1

-- the day word
abbrev pub day_field : Field
day_field = field 4 4

-- the time word
abbrev pub time_field : Field
time_field = field 8 8

-- UT1 in nanoseconds, signed
abbrev pub ut1_field : Field
ut1_field = field 16 4

-- length of day in picoseconds, signed
abbrev pub lod_field : Field
lod_field = field 20 4

-- rate in 10^-20 rad/s, signed
abbrev pub rate_field : Field
rate_field = field 24 4

-- the check word
abbrev pub check_field : Field
check_field = field 28 2

-- ---- the bytes

-- bytes 0 to 27, field by field; an accepted day word is not negative
abbrev pub field_bytes : ClockWords → (ut1 lod rate : ℤ) → List ℕ
field_bytes w ut1 lod rate =
    in_field length_field record_length
    ++ in_field version_field version
    ++ in_field zero_field 0
    ++ signed_in day_field w.day
    ++ in_field time_field w.time
    ++ signed_in ut1_field ut1
    ++ signed_in lod_field lod
    ++ signed_in rate_field rate

-- minus a sum, wrapped to 16 bits
abbrev pub negated : ℕ → ℕ
negated n = (65536 - n % 65536) % 65536

-- the thirty bytes: the check word is the one with which all fifteen words add to 0, wrapped to 16 bits
unfoldable pub record_bytes : ClockWords → (ut1 lod rate : ℤ) → List ℕ
record_bytes w ut1 lod rate =
    field_bytes w ut1 lod rate ++ in_field check_field (negated (word_sum (field_bytes w ut1 lod rate) 14))
