-- Where a moment x is among the rows of a table, and what a number of the rows is there.
-- Derived from the IERS routine FCNNUT; not IERS Conventions software (NOTICE, docs/DIFFERENCES.md).
use Rattle.std.specs.Prelude.{cond, List, [], ◌∷◌, ℕ, suc, ◌+◌, ◌-◌, leb, ℤ, pos, ◌+ℤ◌, ◌-ℤ◌, ◌*ℤ◌, length}
use Rattle.instants.specs.Limits.{index_offset}
use Rattle.instants.specs.Moments.{moment}
use Rattle.rows.specs.declared.Row.{Row}
use Rattle.rows.specs.declared.Place.{Place}
use Rattle.rows.specs.declared.Place.TheVariants.{End, Between}
use Rattle.rows.specs.Table.{row_at}

-- a row's date: 0 h of its day
abbrev pub row_moment : Row → ℕ
row_moment r = moment (r.day + index_offset) 0

-- how many rows, from the first on, are dated at or before x
unfoldable pub started : List Row → ℕ → ℕ
started [] x = 0
started (r ∷ rs) x = cond (leb (row_moment r) x) (suc (started rs x)) 0

-- at or before the first row's date, at or after the last row's, or else between the last row dated at or before x and the next
unfoldable pub place : List Row → ℕ → Place
place rows x =
    cond (leb x (row_moment (row_at rows 0))) (End (row_at rows 0))
    (cond (leb (row_moment (row_at rows (length rows - 1))) x) (End (row_at rows (length rows - 1)))
    (Between (row_at rows (started rows x - 1)) (row_at rows (started rows x))))

-- ---- a number f of the rows at x, straight between two rows: `interpolated` over `parts`

-- the microseconds from one row's date to a later one's
unfoldable pub span : Row → Row → ℕ
span a b = row_moment b - row_moment a

-- the denominator: 1 at or outside an end
unfoldable pub parts : Place → ℕ
parts (End r) = 1
parts (Between a b) = span a b

-- the numerator: f of the end's row; between two rows, x being at or after a and before b, that of f a + (f b - f a) * (x - a) / (b - a)
unfoldable pub interpolated : (Row → ℤ) → Place → ℕ → ℤ
interpolated f (End r) x = f r
interpolated f (Between a b) x = f a *ℤ pos (span a b) +ℤ (f b -ℤ f a) *ℤ pos (x - row_moment a)
