-- The lookup by halving: between which rows of a table a moment x is, and how many rows are probed to find them. Rows are counted from 0.
use Rattle.std.specs.Prelude.{Bool, cond, List, ℕ, zero, suc, ◌+◌, ◌-◌, ◌/◌, eqb, leb, ℤ, length}
use Rattle.instants.specs.Refusals.{refused_or}
use Rattle.instants.specs.Instants.{instant_cases}
use Rattle.instants.specs.Moments.{moment_of}
use Rattle.rows.specs.declared.Row.{Row}
use Rattle.rows.specs.declared.Place.{Place}
use Rattle.rows.specs.declared.Place.TheVariants.{End, Between}
use Rattle.rows.specs.Table.{row_at}
use Rattle.rows.specs.BuiltIn.{built_in}
use Rattle.rows.specs.Places.{row_moment}
use Rattle.row_bytes.specs.Form.{table_in, bytes_cases}
use Rattle.row_places.specs.declared.Bracket.{Bracket}

-- ---- the halving rule

-- the rows at two ends, and the probes that led to them
abbrev pub bracket : (lower upper probes : ℕ) → Bracket
bracket l u p = record { lower = l; upper = u; probes = p }

-- the ends are two neighbours, or one row
abbrev pub neighbours : Bracket → Bool
neighbours b = leb b.upper (b.lower + 1)

-- the middle row, rounded down
abbrev pub middle : Bracket → ℕ
middle b = (b.lower + b.upper) / 2

-- the row at i is dated at or before x
abbrev pub reached : List Row → ℕ → ℕ → Bool
reached rows x i = leb (row_moment (row_at rows i)) x

-- a probe: the middle row takes the place of the lower end where x has reached its date, else that of the upper
abbrev pub probed : List Row → ℕ → Bracket → Bracket
probed rows x b =
    cond (reached rows x (middle b)) (bracket (middle b) b.upper (b.probes + 1)) (bracket b.lower (middle b) (b.probes + 1))

-- at most w probes, until the ends are neighbours
unfoldable pub probing : ℕ → List Row → ℕ → Bracket → Bracket
probing zero rows x b = b
probing (suc w) rows x b = let rest = probing w rows x (probed rows x b) in cond (neighbours b) b rest

-- the rule, by recursion on the width of the bracket, which is enough since each probe makes it less
unfoldable pub halving : List Row → ℕ → Bracket → Bracket
halving rows x b = probing (b.upper - b.lower) rows x b

-- ---- the lookup

-- at or before the first row's date, or at or after the last row's, that row alone and no probe; else what halving leaves of the first and the last
unfoldable pub lookup_of : List Row → ℕ → Bracket
lookup_of rows x =
    cond (leb x (row_moment (row_at rows 0))) (bracket 0 0 0)
    (cond (leb (row_moment (row_at rows (length rows - 1))) x) (bracket (length rows - 1) (length rows - 1) 0)
    (halving rows x (bracket 0 (length rows - 1) 0)))

-- the place that a bracket names: one row, or two
abbrev pub place_in : List Row → Bracket → Place
place_in rows b = cond (eqb b.lower b.upper) (End (row_at rows b.lower)) (Between (row_at rows b.lower) (row_at rows b.upper))

-- ---- the probes at an instant: 0 beside a refusal of service (f)

-- with the rows of a table
abbrev pub probes_with : List Row → ℤ → ℕ → ℕ
probes_with rows d m = refused_or (λ n. 0) (instant_cases d m) (lookup_of rows (moment_of d m)).probes

-- with the built-in rows
unfoldable pub probes_of : ℤ → ℕ → ℕ
probes_of d m = probes_with built_in d m

-- with the rows in the bytes s
unfoldable pub probes_rows_of : List ℕ → ℤ → ℕ → ℕ
probes_rows_of s d m = refused_or (λ n. 0) (bytes_cases s) (probes_with (table_in s) d m)
