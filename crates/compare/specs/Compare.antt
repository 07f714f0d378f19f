-- Service (k): what is given for two files s and t, and a list of n bytes.
use Rattle.std.specs.Prelude.{ℕ, ◌*◌, List, [], ◌∷◌, ◌++◌, ltb, length, Result, Ok, Err}
use Rattle.bigendian.specs.declared.Field.{Field}
use Rattle.bigendian.specs.Fields.{field, in_field, signed_in}
use Rattle.bigendian.specs.Buffers.{at_front}
use Rattle.instants.specs.Refusals.{Case, case, refused_or, refusal_of}
use Rattle.record.specs.declared.Record.{Record}
use Rattle.files.specs.Files.{file_of, file_cases}
use Rattle.compare.specs.declared.Entry.{Entry}
use Rattle.compare.specs.Walk.{side_number, walk}
use Rattle.instants.specs.declared.refusal.Refusal.{Refusal}
use Rattle.instants.specs.declared.refusal.Refusal.TheVariants.{BufferShort}

-- ---- the list

-- the records of a file, none beside a refusal
abbrev pub records_of : Result (List Record) Refusal → List Record
records_of (Ok rs) = rs
records_of (Err n) = []

-- the entries of two files
unfoldable pub entries_of : List ℕ → List ℕ → List Entry
entries_of s t = walk (records_of (file_of s)) (records_of (file_of t))

-- ---- its bytes

-- the bytes of an entry
abbrev pub entry_length : ℕ
entry_length = 37

-- the side
abbrev pub side_field : Field
side_field = field 0 1

-- the day number
abbrev pub day_field : Field
day_field = field 1 4

-- the microseconds of the day
abbrev pub micros_field : Field
micros_field = field 5 8

-- the difference of UT1 in nanoseconds, signed
abbrev pub ut1_field : Field
ut1_field = field 13 8

-- that of the length of day in picoseconds, signed
abbrev pub lod_field : Field
lod_field = field 21 8

-- that of the rate in 10^-20 rad/s, signed
abbrev pub rate_field : Field
rate_field = field 29 8

-- an entry, field by field
unfoldable pub entry_bytes : Entry → List ℕ
entry_bytes e =
    in_field side_field (side_number e.side)
    ++ signed_in day_field e.day
    ++ in_field micros_field e.micros
    ++ signed_in ut1_field e.ut1
    ++ signed_in lod_field e.lod
    ++ signed_in rate_field e.rate

-- entries, one behind the other
abbrev pub list_bytes : List Entry → List ℕ
list_bytes [] = []
list_bytes (e ∷ es) = entry_bytes e ++ list_bytes es

-- ---- the answer

-- the refusals: of the first file, of the second, and of the list
abbrev pub compare_cases : List ℕ → List ℕ → ℕ → List Case
compare_cases s t n = file_cases s ++ (file_cases t ++ case BufferShort (ltb n (entry_length * length (entries_of s t))) ∷ [])

-- the number of entries, or the first refusal
unfoldable pub compare_of : List ℕ → List ℕ → ℕ → Result ℕ Refusal
compare_of s t n = refused_or Err (compare_cases s t n) (Ok (length (entries_of s t)))

-- the list's buffer afterwards: as it was on a refusal, else with the list at its front
unfoldable pub list_after : List ℕ → List ℕ → List ℕ → List ℕ
list_after s t old = refused_or (λ _. old) (compare_cases s t (length old)) (at_front (list_bytes (entries_of s t)) old)

-- ---- the numbers of an answer: 0 beside a refusal

-- entries
abbrev pub entries_number_of : Result ℕ Refusal → ℕ
entries_number_of (Ok n) = n
entries_number_of (Err n) = 0

-- the refusal number, 0 for none
abbrev pub compare_refusal_of : Result ℕ Refusal → ℕ
compare_refusal_of = refusal_of
