-- What only the contracts of the code's own functions cite.
use Rattle.std.specs.Prelude.{ℕ, ◌+◌, ◌-◌, ◌*◌, ◌<◌, ◌≤◌, ◌≡◌, true, false, cond, List, [], ◌∷◌, ltb, length}
use Rattle.record.specs.Format.{record_length}
use Rattle.rescue.specs.Walk.{range, has_record}
use Rattle.rescue.specs.declared.Range.{Range}
use Rattle.rescue.specs.Rescue.{most_bytes, entry_length, kept_count, ranges_in}

-- from place i on the next record is at j, or j is the end
pub record Hop (s : List ℕ) (i j : ℕ) : Type 0 where
  pub onward : i ≤ j
  pub within : j ≤ length s
  pub passed : (k : ℕ) → i ≤ k → k < j → has_record s k ≡ false
  pub found : j < length s → has_record s j ≡ true

-- from place i on records follow each other up to j, where none stands
pub record Chain (s : List ℕ) (i j : ℕ) : Type 0 where
  pub count : ℕ
  pub end : j ≡ i + record_length * count
  pub reads : (k : ℕ) → k < count → has_record s (i + record_length * k) ≡ true
  pub ended : has_record s j ≡ false

-- a turn of the walk from place i on: the bytes up to j are passed, and records follow each other from there to e
pub record Turned (s : List ℕ) (i j e : ℕ) : Type 0 where
  pub hop : Hop s i j
  pub chain : Chain s j e

-- the range of the places from i to j, without j, if there is one
abbrev pub range_to : (i j : ℕ) → List Range
range_to i j = cond (ltb i j) (range i (j - i) ∷ []) []

-- what is asked of an input and of two buffers that are filled
pub record Fits (s : List ℕ) (n m : ℕ) : Type 0 where
  pub few : length s ≤ most_bytes
  pub records : record_length * kept_count s ≤ n
  pub list : entry_length * length (ranges_in s) ≤ m
