-- The words of the promises on dates: by year, month and day.
use Rattle.std.specs.Prelude.{ℕ, Bool, false, ◌&&◌, ◌||◌, List, [], ◌∷◌, eqb, ltb}
use Rattle.calendar.specs.declared.Date.{Date}

-- the date y, m, d is before t
abbrev pub earlier : (y m d : ℕ) → Date → Bool
earlier y m d t = ltb y t.year || (eqb y t.year && (ltb m t.month || (eqb m t.month && ltb d t.day)))

-- it is t
abbrev pub same : (y m d : ℕ) → Date → Bool
same y m d t = eqb y t.year && (eqb m t.month && eqb d t.day)

-- it is one of these
unfoldable pub one_of : (y m d : ℕ) → List Date → Bool
one_of y m d [] = false
one_of y m d (t ∷ ts) = same y m d t || one_of y m d ts
