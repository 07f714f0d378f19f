-- Service (i): what is given for bytes s, and two buffers of n and m bytes for the records and the list of ranges.
use Rattle.std.specs.Prelude.{ℕ, ◌*◌, Bool, ◌||◌, List, [], ◌∷◌, ◌++◌, ltb, length, take, drop, Result, Ok, Err}
use Rattle.bigendian.specs.Numbers.{bytes_of}
use Rattle.bigendian.specs.Buffers.{at_front}
use Rattle.instants.specs.Refusals.{Case, case, refused_or, refusal_of}
use Rattle.record.specs.Format.{record_length}
use Rattle.rescue.specs.declared.Counts.{Counts}
use Rattle.rescue.specs.Walk.{walk, ranges_of}
use Rattle.rescue.specs.declared.Range.{Range}
use Rattle.instants.specs.declared.refusal.Refusal.{Refusal}
use Rattle.instants.specs.declared.refusal.Refusal.TheVariants.{BufferShort, RescueLength}

-- the most bytes of an input
abbrev pub most_bytes : ℕ
most_bytes = 65536

-- the bytes of an entry in the list of ranges
abbrev pub entry_length : ℕ
entry_length = 8

-- ---- the numbers of a walk

-- kept records
unfoldable pub kept_count : List ℕ → ℕ
kept_count s = length (walk s).kept

-- the ranges of the passed bytes
unfoldable pub ranges_in : List ℕ → List Range
ranges_in s = ranges_of (walk s).passed

-- passed bytes
unfoldable pub passed_count : List ℕ → ℕ
passed_count s = length (walk s).passed

-- the three of them
abbrev pub counts_of : List ℕ → Counts
counts_of s = record { kept = kept_count s; ranges = length (ranges_in s); passed = passed_count s }

-- ---- the bytes of a walk

-- the records that start at places of s, one behind the other
abbrev pub records_at : List ℕ → List ℕ → List ℕ
records_at s [] = []
records_at s (i ∷ is) = take record_length (drop i s) ++ records_at s is

-- the kept records
unfoldable pub kept_bytes : List ℕ → List ℕ
kept_bytes s = records_at s (walk s).kept

-- an entry: start and length, four bytes each
abbrev pub entry_bytes : Range → List ℕ
entry_bytes r = bytes_of 4 r.start ++ bytes_of 4 r.size

-- the list of ranges
abbrev pub list_bytes : List Range → List ℕ
list_bytes [] = []
list_bytes (r ∷ rs) = entry_bytes r ++ list_bytes rs

-- ---- the answer

-- the refusals of an input by itself
abbrev pub input_cases : List ℕ → List Case
input_cases s = case RescueLength (ltb most_bytes (length s)) ∷ []

-- a buffer is too short for so many records, or for so many ranges
abbrev pub short : Counts → (n m : ℕ) → Bool
short c n m = ltb n (record_length * c.kept) || ltb m (entry_length * c.ranges)

-- the refusals: of the input, and of the buffers
abbrev pub rescue_cases : List ℕ → (n m : ℕ) → List Case
rescue_cases s n m = input_cases s ++ case BufferShort (short (counts_of s) n m) ∷ []

-- the numbers of kept records, of ranges and of passed bytes, or the first refusal
unfoldable pub rescue_of : List ℕ → (n m : ℕ) → Result Counts Refusal
rescue_of s n m = refused_or Err (rescue_cases s n m) (Ok (counts_of s))

-- the records' buffer afterwards, beside m bytes for the list: as it was on a refusal, else with the kept records at its front
unfoldable pub records_after : List ℕ → (m : ℕ) → List ℕ → List ℕ
records_after s m old = refused_or (λ _. old) (rescue_cases s (length old) m) (at_front (kept_bytes s) old)

-- the list's buffer afterwards, beside n bytes for the records: as it was on a refusal, else with the list at its front
unfoldable pub list_after : List ℕ → (n : ℕ) → List ℕ → List ℕ
list_after s n old = refused_or (λ _. old) (rescue_cases s n (length old)) (at_front (list_bytes (ranges_in s)) old)

-- ---- the numbers of an answer: 0 beside a refusal

-- kept records
abbrev pub kept_of : Result Counts Refusal → ℕ
kept_of (Ok a) = a.kept
kept_of (Err n) = 0

-- ranges
abbrev pub ranges_number_of : Result Counts Refusal → ℕ
ranges_number_of (Ok a) = a.ranges
ranges_number_of (Err n) = 0

-- passed bytes
abbrev pub passed_of : Result Counts Refusal → ℕ
passed_of (Ok a) = a.passed
passed_of (Err n) = 0

-- the refusal number, 0 for none
abbrev pub rescue_refusal_of : Result Counts Refusal → ℕ
rescue_refusal_of = refusal_of
