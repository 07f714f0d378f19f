-- What only the contracts of the code's own functions cite, here, in row_places and in nutation.
use Rattle.std.specs.Prelude.{ℕ, ◌≡◌, List, length}
use Rattle.rows.specs.Table.{AcceptedTable}
use Rattle.row_bytes.specs.Form.{row_count, table_in, form_length}

-- the bytes s hold whole rows behind a head
abbrev pub Whole : List ℕ → Type 0
Whole s = length s ≡ form_length (row_count (length s))

-- bytes of an accepted table
pub record Lent (s : List ℕ) : Type 0 where
  pub whole : Whole s
  pub accepted : AcceptedTable (table_in s)
