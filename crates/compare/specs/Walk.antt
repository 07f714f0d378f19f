-- The walk over the records of two files in the order of their instants, and the entries that it lists.
use Rattle.std.specs.Prelude.{ℕ, Bool, false, cond, ◌&&◌, List, [], ◌∷◌, ◌++◌, eqb, ltb, ℤ, pos, negsuc, ◌-ℤ◌}
use Rattle.record.specs.declared.Record.{Record}
use Rattle.files.specs.Files.{when}
use Rattle.compare.specs.declared.Entry.{Entry}
use Rattle.compare.specs.declared.Side.{Side}
use Rattle.compare.specs.declared.Side.TheVariants.{FirstOnly, SecondOnly, InBoth}

-- ---- sides

-- the number of a side in an entry's first byte
abbrev pub side_number : Side → ℕ
side_number FirstOnly = 1
side_number SecondOnly = 2
side_number InBoth = 3

-- the side of a number
abbrev pub side_of : ℕ → Side
side_of n = cond (eqb n 1) FirstOnly (cond (eqb n 2) SecondOnly InBoth)

-- ---- entries

-- an entry: the number of its side, its instant and three differences
abbrev pub entry : ℕ → ℤ → ℕ → (ut1 lod rate : ℤ) → Entry
entry n d m ut1 lod rate = record { side = side_of n; day = d; micros = m; ut1 = ut1; lod = lod; rate = rate }

-- of a record in one file only: its instant, and zeros
abbrev pub alone : Side → Record → Entry
alone side r = record { side = side; day = r.day; micros = r.micros; ut1 = pos 0; lod = pos 0; rate = pos 0 }

-- of two records of one instant: second minus first
abbrev pub changed : Record → Record → Entry
changed r q = record { side = InBoth; day = r.day; micros = r.micros; ut1 = q.ut1 -ℤ r.ut1; lod = q.lod -ℤ r.lod; rate = q.rate -ℤ r.rate }

-- two numbers are equal
abbrev pub equal : ℤ → ℤ → Bool
equal (pos m) (pos n) = eqb m n
equal (negsuc m) (negsuc n) = eqb m n
equal (pos m) (negsuc n) = false
equal (negsuc m) (pos n) = false

-- all three numbers are
abbrev pub same_numbers : Record → Record → Bool
same_numbers r q = (equal r.ut1 q.ut1 && equal r.lod q.lod) && equal r.rate q.rate

-- what is listed of two records of one instant
abbrev pub differing : Record → Record → List Entry
differing r q = cond (same_numbers r q) [] (changed r q ∷ [])

-- ---- the walk

-- the earlier of the two next records is taken, or both where they are of one instant
unfoldable pub walk : (first second : List Record) → List Entry
walk [] [] = []
walk (r ∷ rs) [] = alone FirstOnly r ∷ walk rs []
walk [] (q ∷ qs) = alone SecondOnly q ∷ walk [] qs
walk (r ∷ rs) (q ∷ qs) =
    cond (ltb (when r) (when q)) (alone FirstOnly r ∷ walk rs (q ∷ qs))
    (cond (ltb (when q) (when r)) (alone SecondOnly q ∷ walk (r ∷ rs) qs) (differing r q ++ walk rs qs))
