-- What only the contracts of the code's own functions cite.
use Rattle.std.specs.Prelude.{ℕ, ◌+◌, ◌*◌, ◌≤◌, ◌≡◌, Bool, true, cond, ◌&&◌, ◌||◌, List, [], ◌∷◌, ◌++◌, ltb, length, drop, Result, Option, Some, None}
use Rattle.instants.specs.Refusals.{first_refusal}
use Rattle.record.specs.declared.Record.{Record}
use Rattle.record.specs.Format.{record_length}
use Rattle.record.specs.Records.{record_with, read_of, record_day_of, record_micros_of, record_ut1_of, record_lod_of, record_rate_of}
use Rattle.files.specs.Files.{records_among, file_cases}
use Rattle.files.specs.Inner.{at_end, next_moment, answers_from, sound, Standing}
use Rattle.compare.specs.declared.Entry.{Entry}
use Rattle.compare.specs.declared.Place.{Place}
use Rattle.compare.specs.declared.Side.TheVariants.{FirstOnly, SecondOnly}
use Rattle.compare.specs.Walk.{alone, differing, walk}
use Rattle.compare.specs.Compare.{entry_length}
use Rattle.instants.specs.declared.refusal.Refusal.{Refusal}

-- the record of an answer, of zeros for one that is none
abbrev pub record_in : Result Record Refusal → Record
record_in a = record_with (record_day_of a) (record_micros_of a) (record_ut1_of a) (record_lod_of a) (record_rate_of a)

-- the record at place i of s
abbrev pub record_at : List ℕ → ℕ → Record
record_at s i = record_in (read_of (drop i s))

-- the records from place i of s on
abbrev pub records_from : List ℕ → ℕ → List Record
records_from s i = records_among (answers_from s i)

-- ---- where a walk stands

-- the places i and j in two files, and the moments m and n of the records there
abbrev pub place : (i j m n : ℕ) → Place
place i j m n = record { first = i; second = j; m = m; n = n }

-- at the fronts of both files
abbrev pub start_of : List ℕ → List ℕ → Place
start_of s t = place 0 0 (next_moment 0 (answers_from s 0)) (next_moment 0 (answers_from t 0))

-- behind the record of a file at place i, of moment m
abbrev pub behind : List ℕ → ℕ → ℕ → ℕ
behind s i m = next_moment m (answers_from s (i + record_length))

-- behind the record of the first file
abbrev pub past_first : List ℕ → Place → Place
past_first s p = place (p.first + record_length) p.second (behind s p.first p.m) p.n

-- behind that of the second
abbrev pub past_second : List ℕ → Place → Place
past_second t p = place p.first (p.second + record_length) p.m (behind t p.second p.n)

-- behind the earlier of two records, or behind both
abbrev pub next_place : List ℕ → List ℕ → Place → Place
next_place s t p = cond (ltb p.m p.n) (past_first s p) (cond (ltb p.n p.m) (past_second t p) (past_second t (past_first s p)))

-- what is listed there
abbrev pub here : List ℕ → List ℕ → Place → List Entry
here s t p =
    cond (ltb p.m p.n) (alone FirstOnly (record_at s p.first) ∷ [])
    (cond (ltb p.n p.m) (alone SecondOnly (record_at t p.second) ∷ []) (differing (record_at s p.first) (record_at t p.second)))

-- a walk at a place with a record in one file or in both, which are sound where that is known
pub record Going (s t : List ℕ) (p : Place) (known : Bool) : Type 0 where
  pub first : Standing s p.first p.m
  pub second : Standing t p.second p.n
  pub going : (ltb p.m at_end || ltb p.n at_end) ≡ true
  pub sounds : known ≡ true → (sound s ≡ true) × (sound t ≡ true)

-- ---- the numbers

-- the number of entries of two files, if both are sound
unfoldable pub count_of : List ℕ → List ℕ → Option ℕ
count_of s t = cond (sound s && sound t) (Some (length (walk (records_from s 0) (records_from t 0)))) None

-- the first refusal of two files, or 0
unfoldable pub files_refusal : List ℕ → List ℕ → ℕ
files_refusal s t = first_refusal (file_cases s ++ file_cases t)

-- what is asked of two files and a list of n bytes that is filled with so many
pub record Fits (s t : List ℕ) (needed n : ℕ) : Type 0 where
  pub first : sound s ≡ true
  pub second : sound t ≡ true
  pub all : needed ≡ entry_length * length (walk (records_from s 0) (records_from t 0))
  pub room : needed ≤ n
