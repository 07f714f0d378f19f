-- The byte form of a table of rows, every number big-endian: written, read, and refused.
use Rattle.std.specs.Prelude.{ℕ, zero, suc, ◌+◌, ◌-◌, ◌*◌, ◌/◌, ◌≡◌, not, List, [], ◌∷◌, ◌++◌, eqb, ltb, ℤ, pos, negsuc, length, drop}
use Rattle.bigendian.specs.declared.Field.{Field}
use Rattle.bigendian.specs.Fields.{field, field_at, signed_at, in_field, signed_in}
use Rattle.instants.specs.Refusals.{Case, case, first_refusal}
use Rattle.rows.specs.declared.Row.{Row}
use Rattle.rows.specs.Table.{row, fewest_rows, most_rows, table_cases}
use Rattle.instants.specs.declared.refusal.Refusal.TheVariants.{RowsLength, RowsVersion}

-- ---- the layout: a head, then the rows

-- the length of the whole
abbrev pub length_field : Field
length_field = field 0 2

-- the version
abbrev pub version_field : Field
version_field = field 2 1

-- the version that is read
abbrev pub version : ℕ
version = 1

-- the bytes of the head
abbrev pub head_length : ℕ
head_length = 3

-- a row's fields, from its first byte on: the day number of its date
abbrev pub day_field : Field
day_field = field 0 4

-- XC in hundredths of a microarcsecond, signed
abbrev pub xc_field : Field
xc_field = field 4 4

-- XS, in the same way
abbrev pub xs_field : Field
xs_field = field 8 4

-- and the uncertainty
abbrev pub uncertainty_field : Field
uncertainty_field = field 12 4

-- the bytes of a row
abbrev pub row_length : ℕ
row_length = 16

-- the bytes of a table of n rows
abbrev pub form_length : ℕ → ℕ
form_length n = head_length + row_length * n

-- ---- writing

-- a row's bytes
unfoldable pub row_bytes : Row → List ℕ
row_bytes r =
    in_field day_field r.day ++ signed_in xc_field r.xc ++ signed_in xs_field r.xs ++ signed_in uncertainty_field (pos r.uncertainty)

-- rows, one behind the other
unfoldable pub all_bytes : List Row → List ℕ
all_bytes [] = []
all_bytes (r ∷ rs) = row_bytes r ++ all_bytes rs

-- the byte form of a table
unfoldable pub table_bytes : List Row → List ℕ
table_bytes rows = in_field length_field (form_length (length rows)) ++ in_field version_field version ++ all_bytes rows

-- ---- reading

-- a number that is below 0 reads as 0, which no uncertainty may be
abbrev pub at_least0 : ℤ → ℕ
at_least0 (pos n) = n
at_least0 (negsuc n) = 0

-- the row at the front of s
unfoldable pub row_in : List ℕ → Row
row_in s = row (field_at s day_field) (signed_at s xc_field) (signed_at s xs_field) (at_least0 (signed_at s uncertainty_field))

-- the n rows at the front of s, one behind the other
unfoldable pub rows_in : ℕ → List ℕ → List Row
rows_in zero s = []
rows_in (suc n) s = row_in s ∷ rows_in n (drop row_length s)

-- the rows that n bytes hold behind a head
abbrev pub row_count : ℕ → ℕ
row_count n = (n - head_length) / row_length

-- the rows of the byte form s
unfoldable pub table_in : List ℕ → List Row
table_in s = rows_in (row_count (length s)) (drop head_length s)

-- ---- the refusals

-- of the length: a head that is not whole, a length field that is not the length, a length that no table has
abbrev pub length_cases : List ℕ → List Case
length_cases s =
    case RowsLength (ltb (length s) head_length)
    ∷ case RowsLength (not (eqb (field_at s length_field) (length s)))
    ∷ case RowsLength (ltb (row_count (length s)) fewest_rows)
    ∷ case RowsLength (ltb most_rows (row_count (length s)))
    ∷ case RowsLength (not (eqb (length s) (form_length (row_count (length s)))))
    ∷ []

-- of the form: the length, and the version
abbrev pub form_cases : List ℕ → List Case
form_cases s = length_cases s ++ case RowsVersion (not (eqb (field_at s version_field) version)) ∷ []

-- of the bytes: the form, and the rules of a table
abbrev pub bytes_cases : List ℕ → List Case
bytes_cases s = form_cases s ++ table_cases (table_in s)

-- bytes that are accepted: none of these applies
abbrev pub AcceptedBytes : List ℕ → Type 0
AcceptedBytes s = first_refusal (bytes_cases s) ≡ 0
