-- What is summed and what the columns from here on come to are the whole sum, and what is summed is at most 2^44 a column, so that it fits.
use Rattle.std.proofs.Common.{◌≡◌, ◌+◌, ◌*◌, ◌^◌, ◌≤◌, length}
use Rattle.arguments.specs.Ours.{columns}
use Rattle.arguments.proofs.Rows.{columns_from}
use Rattle.arguments.proofs.angle.Given as goal

abbrev pub invariant-loop-k : goal.invariant-loop-k
invariant-loop-k l = record {
  within : length l.yielded ≤ 5;
  fits : l.sum ≤ length l.yielded * 2 ^ 44;
  whole : l.sum + columns_from l.row l.a (length l.yielded) ≡ columns l.row l.a;
}
