-- The fields of a byte form: each number has its place.
use Rattle.std.specs.Prelude.{ℕ, List, ℤ}
use Rattle.bigendian.specs.declared.Field.{Field}
use Rattle.bigendian.specs.Numbers.{bytes_of, number_at, twos_complement, signed_of}

-- a field: its first byte and its number of bytes
abbrev pub field : ℕ → ℕ → Field
field at size = record { at = at; size = size }

-- the number in a field of s
abbrev pub field_at : List ℕ → Field → ℕ
field_at s f = number_at s f.at f.size

-- the signed number in a field of s
abbrev pub signed_at : List ℕ → Field → ℤ
signed_at s f = signed_of f.size (field_at s f)

-- a field's bytes for a number
abbrev pub in_field : Field → ℕ → List ℕ
in_field f n = bytes_of f.size n

-- a field's bytes for a signed number
abbrev pub signed_in : Field → ℤ → List ℕ
signed_in f z = in_field f (twos_complement f.size z)
