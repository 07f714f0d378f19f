-- What is promised of each record of a run.
use Rattle.std.specs.Prelude.{ℕ, ◌≡◌, List, ℤ, Ok}
use Rattle.record.specs.Records.{record_with, read_of}
use Rattle.zonal.specs.Within.{promised, Answered}

-- The bytes s read as the record of the instant d, m with the numbers of its corrections, each within its promised distance of the exact sum.
pub record ReadsAt (d : ℤ) (m : ℕ) (s : List ℕ) : Type 0 where
  pub answered : Answered promised d m
  pub reads : read_of s ≡ Ok (record_with d m answered.numbers.ut1 answered.numbers.lod answered.numbers.rate)
