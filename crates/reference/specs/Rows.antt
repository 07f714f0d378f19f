-- The reference values of docs/RULES.md that are proved, as rows of one list.
use Rattle.std.specs.Prelude.{ℕ, ◌≡◌, List, [], ◌∷◌, ℤ, pos, neg_ℤ, Result, Ok, Err}
use Rattle.calendar.specs.Dates.{day_of}
use Rattle.instants.specs.declared.refusal.Refusal.{Refusal}
use Rattle.instants.specs.Refusals.{number}
use Rattle.instants.specs.Instants.{instant}
use Rattle.utc.specs.Readings.{reading}
use Rattle.utc.specs.Conversions.{tt_of, utc_of}
use Rattle.utc.specs.declared.Reading.{Reading}
use Rattle.clock.specs.Words.{words, time_word, split_of, join_of}
use Rattle.record.specs.Format.{record_bytes}
use Rattle.record.specs.Records.{record_with, read_of}
use Rattle.nutation.specs.Ours.{nutation_of, uncertainty_of}

-- a row, by the kind of its statement
pub data Row : Type 0 where
  date_is : (year month day number : ℕ) → Row
  date_refused : (year month day refusal : ℕ) → Row
  time_word_is : (day micros time : ℕ) → Row
  words_refused : (day time refusal : ℕ) → Row
  record_is : (day micros : ℕ) (ut1 lod rate : ℤ) (bytes : List ℕ) → Row
  uncertainty_is : (day micros uncertainty : ℕ) → Row
  utc_is : (reading : Reading) (day micros : ℕ) → Row
  utc_refused : (reading : Reading) (refusal : ℕ) → Row

-- an answer is the refusal of that number
abbrev pub Refused : {A : Type 0} → Result A Refusal → ℕ → Type 0
Refused a n = (r : Refusal) × (a ≡ Err r) × (number r ≡ n)

-- what a row says
unfoldable pub Says : Row → Type 0
Says (date_is y m d n) = day_of y m d ≡ Ok (pos n)
Says (date_refused y m d r) = Refused (day_of y m d) r
Says (time_word_is d m t) = split_of (pos d) m ≡ Ok (words (pos d) t)
Says (words_refused d t r) = Refused (join_of (pos d) t) r
Says (record_is d m ut1 lod rate bytes) =
    (record_bytes (words (pos d) (time_word (pos d) m)) ut1 lod rate ≡ bytes)
    × (read_of bytes ≡ Ok (record_with (pos d) m ut1 lod rate))
Says (uncertainty_is d m u) = uncertainty_of (nutation_of (pos d) m) ≡ u
Says (utc_is r d m) = (tt_of r ≡ Ok (instant (pos d) m)) × (utc_of (pos d) m ≡ Ok r)
Says (utc_refused r n) = Refused (tt_of r) n

-- every row of a list
unfoldable pub EveryRow : List Row → Type 0
EveryRow [] = Unit
EveryRow (r ∷ rs) = Says r × EveryRow rs

-- the list
unfoldable pub rows : List Row
rows =
    date_is 1900 1 1 15020
    ∷ date_is 2000 2 29 51603
    ∷ date_is 2007 12 31 54465
    ∷ date_is 2009 6 25 55007
    ∷ date_is 2100 12 31 88433
    ∷ date_refused 1900 2 29 3
    ∷ date_refused 2100 2 29 3
    ∷ date_refused 1899 12 31 1
    ∷ date_refused 2101 1 1 1
    ∷ time_word_is 54465 0 137438953472
    ∷ words_refused 54465 274877906944 10
    ∷ record_is 54465 0 (pos 1) (neg_ℤ (pos 1)) (pos 0)
    (0x00 ∷ 0x1E ∷ 0x01 ∷ 0x00 ∷ 0x00 ∷ 0x00 ∷ 0xD4 ∷ 0xC1 ∷ 0x00 ∷ 0x00 ∷ 0x00 ∷ 0x20 ∷ 0x00 ∷ 0x00 ∷ 0x00 ∷ 0x00 ∷ 0x00 ∷ 0x00 ∷ 0x00 ∷ 0x01 ∷ 0xFF ∷ 0xFF ∷ 0xFF ∷ 0xFF ∷ 0x00 ∷ 0x00 ∷ 0x00 ∷ 0x00 ∷ 0x2A ∷ 0x02 ∷ [])
    ∷ uncertainty_is 45700 0 39440
    ∷ uncertainty_is 45699 0 39705
    ∷ uncertainty_is 45883 0 30840
    ∷ uncertainty_is 56294 0 3985
    ∷ utc_is (reading 2009 6 25 0 0 0 0) 55007 66_184_000
    ∷ utc_is (reading 2016 12 31 23 59 60 500_000) 57754 68_684_000
    ∷ utc_refused (reading 2016 6 30 23 59 60 0) 6
    ∷ utc_refused (reading 1971 12 31 23 59 60 0) 6
    ∷ utc_refused (reading 1971 12 31 23 59 59 999_999) 19
    ∷ utc_refused (reading 2025 6 27 23 59 60 0) 6
    ∷ utc_refused (reading 2025 6 28 0 0 0 0) 20
    ∷ []
