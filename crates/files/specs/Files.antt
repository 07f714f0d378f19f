-- A record file: whole records, one behind the other, whose instants rise. Its records, or its refusal.
use Rattle.std.specs.Prelude.{ℕ, zero, suc, ◌/◌, ◌%◌, Bool, true, not, ◌&&◌, ◌||◌, List, [], ◌∷◌, ◌++◌, eqb, ltb, length, drop, Result, Ok, Err}
use Rattle.instants.specs.Refusals.{Case, case, refused_or, refusal_of}
use Rattle.instants.specs.Moments.{moment_of}
use Rattle.record.specs.declared.Record.{Record}
use Rattle.record.specs.Format.{record_length}
use Rattle.record.specs.Records.{read_of}
use Rattle.instants.specs.declared.refusal.Refusal.{Refusal}
use Rattle.instants.specs.declared.refusal.Refusal.TheVariants.{FileLength, FileOrder}

-- the most bytes of a file
abbrev pub most_bytes : ℕ
most_bytes = 65520

-- ---- what is read

-- the answers of n records at the front of s, one behind the other
abbrev pub answers : ℕ → List ℕ → List (Result Record Refusal)
answers zero s = []
answers (suc n) s = read_of s ∷ answers n (drop record_length s)

-- those of all whole records in s
unfoldable pub answers_in : List ℕ → List (Result Record Refusal)
answers_in s = answers (length s / record_length) s

-- the records among answers
abbrev pub records_among : List (Result Record Refusal) → List Record
records_among [] = []
records_among (Ok r ∷ xs) = r ∷ records_among xs
records_among (Err n ∷ xs) = records_among xs

-- the moment of a record's instant, by which records are ordered
abbrev pub when : Record → ℕ
when r = moment_of r.day r.micros

-- the first record, if there is one, is after the moment t
abbrev pub starts_after : ℕ → List Record → Bool
starts_after t [] = true
starts_after t (r ∷ rs) = ltb t (when r)

-- each instant is after the one before
abbrev pub rises : List Record → Bool
rises [] = true
rises (r ∷ rs) = starts_after (when r) rs && rises rs

-- ---- the refusals

-- a length that no file has: not one of whole records, or above the most
abbrev pub wrong_length : ℕ → Bool
wrong_length n = not (eqb (n % record_length) 0) || ltb most_bytes n

-- the refusal of a length
abbrev pub length_cases : ℕ → List Case
length_cases n = case FileLength (wrong_length n) ∷ []

-- those of answers: each that is no record has its own, so that the earliest decides
abbrev pub reading_cases : List (Result Record Refusal) → List Case
reading_cases [] = []
reading_cases (Ok r ∷ xs) = reading_cases xs
reading_cases (Err n ∷ xs) = case n true ∷ reading_cases xs

-- that of the order of the instants
abbrev pub order_cases : List Record → List Case
order_cases rs = case FileOrder (not (rises rs)) ∷ []

-- those of a file: of its length, of reading, and of the order
unfoldable pub file_cases : List ℕ → List Case
file_cases s = length_cases (length s) ++ (reading_cases (answers_in s) ++ order_cases (records_among (answers_in s)))

-- ---- the file

-- the file that s is: its records in their order, or its refusal
unfoldable pub file_of : List ℕ → Result (List Record) Refusal
file_of s = refused_or Err (file_cases s) (Ok (records_among (answers_in s)))

-- the refusal number, 0 for none
abbrev pub file_refusal_of : Result (List Record) Refusal → ℕ
file_refusal_of = refusal_of
