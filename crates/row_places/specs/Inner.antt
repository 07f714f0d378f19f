-- What only the contracts of the code's own functions cite: the answers of which specs/Lookup has the numbers.
use Rattle.std.specs.Prelude.{List, ℕ, ℤ, Result, Ok, Err}
use Rattle.instants.specs.declared.refusal.Refusal.{Refusal}
use Rattle.instants.specs.Refusals.{refused_or}
use Rattle.instants.specs.Instants.{instant_cases}
use Rattle.instants.specs.Moments.{moment_of}
use Rattle.rows.specs.declared.Row.{Row}
use Rattle.row_bytes.specs.Form.{table_in, bytes_cases}
use Rattle.row_places.specs.Lookup.{lookup_of}

-- the probes at an instant with the rows of a table, or refusal 8 or 9
abbrev pub probes_answer : List Row → ℤ → ℕ → Result ℕ Refusal
probes_answer rows d m = refused_or Err (instant_cases d m) (Ok (lookup_of rows (moment_of d m)).probes)

-- with the rows in the bytes s, or refusal 21 to 24, then 8 or 9
unfoldable pub probes_rows_answer : List ℕ → ℤ → ℕ → Result ℕ Refusal
probes_rows_answer s d m = refused_or Err (bytes_cases s) (probes_answer (table_in s) d m)
