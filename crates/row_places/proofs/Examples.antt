-- Probes at some instants, computed, around the dates of rows; five and eight are reached. Assumes nothing.
use mathlib.Core.Path.{◌≡◌, refl, sym, ◌∙◌, ap}
use mathlib.Core.List.{List, [], ◌∷◌}
use Prim.Native.Nat.{ℕ, zero, suc, ◌+◌}
use lib.Dec.{lit≤}
use lib.IntN.{ℤ, pos}
use lib.ListN.{length}
use Rattle.instants.specs.Instants.{outside, day_index}
use Rattle.rows.specs.declared.Row.{Row}
use Rattle.rows.specs.Table.{row, days_wrong, numbers_wrong, AcceptedTable}
use Rattle.rows.specs.BuiltIn.{built_in}
use Rattle.row_bytes.specs.Form.{row_count, table_bytes, AcceptedBytes}
use Rattle.row_bytes.proofs.Reading.{table_count}
use Rattle.row_bytes.proofs.Round.{table_back, table_accepted}
use Rattle.row_places.specs.Lookup.{probing, halving, lookup_of, probes_with, probes_of, probes_rows_of}
use Rattle.row_places.proofs.Probes.{probes_answered}

-- PROMISE. With the built-in rows: at the first row's date, a microsecond later, a microsecond before the eighth row's date and at it, a microsecond before
-- the last row's date and at it.
pub some_probes :
    (probes_of (pos 45700) 0 ≡ 0) × (probes_of (pos 45700) 1 ≡ 4) × (probes_of (pos 48256) 86_399_999_999 ≡ 5) × (probes_of (pos 48257) 0 ≡ 4)
    × (probes_of (pos 56292) 86_399_999_999 ≡ 5) × (probes_of (pos 56293) 0 ≡ 0)
unfolding probes_of lookup_of halving probing built_in outside day_index
some_probes = (refl, refl, refl, refl, refl, refl)

-- ---- two hundred rows

-- n rows, each 365 days after the one before, from the day d on
yearly : ℕ → ℕ → List Row
yearly zero d = []
yearly (suc n) d = row d (pos 0) (pos 0) 1 ∷ yearly n (d + 365)

abbrev rows : List Row
rows = yearly 200 15020

rows_accepted : AcceptedTable rows
unfolding yearly days_wrong numbers_wrong
rows_accepted = record { fewest = lit≤ tt; most = lit≤ tt; days = refl; numbers = refl }

count : length rows ≡ 200
unfolding yearly
count = refl

probed : probes_with rows (pos 15385) 0 ≡ 8
unfolding yearly lookup_of halving probing outside day_index
probed = refl

-- PROMISE. Eight are probed at some instant in a table of two hundred rows.
pub some_eight : (s : List ℕ) × (d : ℤ) × (m : ℕ) × AcceptedBytes s × (row_count (length s) ≡ 200) × (probes_rows_of s d m ≡ 8)
some_eight =
    let s : List ℕ = table_bytes rows in
    let a = table_accepted rows rows_accepted in
    let back = table_back rows rows_accepted in
    (s, pos 15385, 0, a, sym (table_count s) ∙ ap length back ∙ count, probes_answered s a (pos 15385) 0 ∙ ap (λ (t : List Row). probes_with t (pos 15385) 0) back ∙ probed)
