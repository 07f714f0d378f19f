-- The words of what is proved of a walk (proofs/).
use Rattle.std.specs.Prelude.{ℕ, zero, suc, ◌+◌, ◌*◌, ◌<◌, ◌≤◌, ◌≡◌, Bool, true, false, ◌&&◌, ◌||◌, List, [], ◌∷◌, ◌++◌, eqb, ltb, leb, length, drop}
use Rattle.bigendian.specs.Numbers.{number_at}
use Rattle.record.specs.Format.{record_length}
use Rattle.rescue.specs.Walk.{range, has_record}
use Rattle.rescue.specs.declared.Range.{Range}
use Rattle.rescue.specs.Rescue.{entry_length}

-- something holds of every place of a list
abbrev pub Each : (ℕ → Type 0) → List ℕ → Type 0
Each P [] = Unit {0}
Each P (i ∷ is) = P i × Each P is

-- p is one of the places
abbrev pub among : ℕ → List ℕ → Bool
among p [] = false
among p (i ∷ is) = eqb p i || among p is

-- p is in one of the records that start at the places
abbrev pub in_record : ℕ → List ℕ → Bool
in_record p [] = false
in_record p (i ∷ is) = (leb i p && ltb p (i + record_length)) || in_record p is

-- n places from i on
abbrev pub places_from : ℕ → ℕ → List ℕ
places_from i zero = []
places_from i (suc n) = i ∷ places_from (i + 1) n

-- the places of ranges, one range after the other
abbrev pub places_of : List Range → List ℕ
places_of [] = []
places_of (r ∷ rs) = places_from r.start r.size ++ places_of rs

-- the first range starts behind place i
abbrev pub StartsAfter : ℕ → List Range → Type 0
StartsAfter i [] = Unit {0}
StartsAfter i (r ∷ rs) = i < r.start

-- ranges in order: each has a byte or more, and a byte or more is between it and the next
abbrev pub Apart : List Range → Type 0
Apart [] = Unit {0}
Apart (r ∷ rs) = (1 ≤ r.size) × StartsAfter (r.start + r.size) rs × Apart rs

-- the first n entries of a list of ranges, read from its bytes
abbrev pub listed : ℕ → List ℕ → List Range
listed zero l = []
listed (suc n) l = range (number_at l 0 4) (number_at l 4 4) ∷ listed n (drop entry_length l)

-- s is n records, one behind the other, with nothing between
pub record WholeRecords (s : List ℕ) (n : ℕ) : Type 0 where
  pub size : length s ≡ record_length * n
  pub reads : (k : ℕ) → k < n → has_record s (record_length * k) ≡ true
