-- A table of amplitudes of the free core nutation, and the rules that any accepted table keeps.
-- Amplitudes and uncertainties are in hundredths of a microarcsecond.
use Rattle.std.specs.Prelude.{◌≡◌, Bool, false, ◌||◌, List, [], ◌∷◌, ℕ, zero, suc, ◌≤◌, ltb, leb, ℤ, nat_abs, length, get_or}
use Rattle.algebra.specs.Integers.{+◌}
use Rattle.instants.specs.Refusals.{Case, case}
use Rattle.rows.specs.declared.Row.{Row}
use Rattle.instants.specs.declared.refusal.Refusal.TheVariants.{RowsDay, RowsSize}

-- a row: the day number of its date, XC, XS and the uncertainty
abbrev pub row : ℕ → ℤ → ℤ → ℕ → Row
row d c s u = record { day = d; xc = c; xs = s; uncertainty = u }

-- the row at an index, counted from 0; past the last one zeros
abbrev pub row_at : List Row → ℕ → Row
row_at rows i = get_or rows i (row 0 (+ 0) (+ 0) 0)

-- ---- the limits

-- how many rows a table has at least
abbrev pub fewest_rows : ℕ
fewest_rows = 2

-- and at most
abbrev pub most_rows : ℕ
most_rows = 200

-- the first day number that a row may have
abbrev pub first_row_day : ℕ
first_row_day = 15020

-- and the last
abbrev pub last_row_day : ℕ
last_row_day = 88433

-- the largest amplitude and the largest uncertainty: 1000 microarcseconds
abbrev pub largest : ℕ
largest = 100_000

-- ---- the refusals of rows

-- a day is out of its limits
abbrev pub day_out : Row → Bool
day_out r = ltb r.day first_row_day || ltb last_row_day r.day

-- a row's day is not after that of the row before it
abbrev pub not_after : List Row → ℕ → Bool
not_after rows zero = false
not_after rows (suc i) = leb (row_at rows (suc i)).day (row_at rows i).day

-- an amplitude is out of its limits, or the uncertainty, which is above 0
abbrev pub number_out : Row → Bool
number_out r = ltb largest (nat_abs r.xc) || (ltb largest (nat_abs r.xs) || (ltb r.uncertainty 1 || ltb largest r.uncertainty))

-- f holds at one of the indices below n
abbrev pub some_below : ℕ → (ℕ → Bool) → Bool
some_below zero f = false
some_below (suc n) f = f n || some_below n f

-- some row's day is out of its limits, or not after the one before
unfoldable pub days_wrong : List Row → Bool
days_wrong rows = some_below (length rows) (λ i. day_out (row_at rows i) || not_after rows i)

-- some row's amplitude or uncertainty is out of its limits
unfoldable pub numbers_wrong : List Row → Bool
numbers_wrong rows = some_below (length rows) (λ i. number_out (row_at rows i))

-- the refusals, each looked for in all rows before the next
abbrev pub table_cases : List Row → List Case
table_cases rows = case RowsDay (days_wrong rows) ∷ case RowsSize (numbers_wrong rows) ∷ []

-- a table that is accepted: its number of rows is within the limits, and neither refusal applies
pub record AcceptedTable (rows : List Row) : Type 0 where
  pub fewest : fewest_rows ≤ length rows
  pub most : length rows ≤ most_rows
  pub days : days_wrong rows ≡ false
  pub numbers : numbers_wrong rows ≡ false
