-- Demand 3 holds. Each field is proved from the theorem of its service that docs/PROMISES.md names. Assumes nothing.
use mathlib.Core.Path.{◌≡◌, refl, sym}
use mathlib.Core.List.{[], ◌∷◌}
use lib.IntN.{pos, neg_ℤ}
use Rattle.instants.proofs.Moments.{accepted_moment}
use Rattle.rows.specs.Table.{row, days_wrong, numbers_wrong}
use Rattle.rows.proofs.Places.{row_date}
use Rattle.row_bytes.specs.Form.{row_in, rows_in, table_in, AcceptedBytes}
use Rattle.sine.proofs.Distance.{sine_within}
use Rattle.zonal.proofs.Promises.{accepted_answered}
use Rattle.zonal.proofs.Worked.{case_accepted, no_constant}
use Rattle.run.proofs.ReadBack.{run_reads, some_not_refused}
use Rattle.nutation.proofs.Promises.{nutation_near, rows_near, no_constant_x, no_constant_y}
use Rattle.promises.specs.Distance.{two_rows, Distance}

-- ---- some rows, computed

some_accepted : AcceptedBytes two_rows
unfolding table_in rows_in row_in days_wrong numbers_wrong
some_accepted = refl

some_read : table_in two_rows ≡ row 15020 (pos 0) (pos 0) 1 ∷ row 88433 (neg_ℤ (pos 100_000)) (pos 100_000) 100_000 ∷ []
unfolding table_in rows_in row_in
some_read = refl

-- PROMISE. Demand 3: distance.
pub distance : Distance
distance = record {
  in_figures = (refl, refl, refl);
  sine_near = sine_within;
  some_instant = case_accepted;
  corrections_near = accepted_answered;
  corrections_vary = no_constant;
  run_near = run_reads;
  some_run = some_not_refused;
  moment_counts = λ d m a. sym (accepted_moment d m a);
  row_dates = row_date;
  offsets_near = nutation_near;
  rows_near = rows_near;
  some_rows = (some_accepted, some_read);
  offsets_vary = λ c. (no_constant_x c, no_constant_y c);
}
