-- Each total is the sum over the rows passed.
use Rattle.std.proofs.Common.{◌≡◌, ◌≤◌, length}
use Rattle.zonal.specs.Exact.{row_count}
use Rattle.zonal.specs.Ours.{row_sine, row_cosine}
use Rattle.zonal.proofs.Weighted.{weighted}
use Rattle.zonal.proofs.sums_at.Given as goal

abbrev pub invariant-loop-multipliers : goal.invariant-loop-multipliers
invariant-loop-multipliers l = record {
  within : length l.yielded ≤ row_count;
  ut1 : l.total.ut1 ≡ weighted (row_sine l.fn.at) (row_cosine l.fn.at) 0 (length l.yielded);
  lod : l.total.lod ≡ weighted (row_cosine l.fn.at) (row_sine l.fn.at) 2 (length l.yielded);
  rate : l.total.rate ≡ weighted (row_cosine l.fn.at) (row_sine l.fn.at) 4 (length l.yielded);
}
