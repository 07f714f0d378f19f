-- The quotients and remainders of the code are those of `Groups`. The quotients and the last remainder are left open: they are what the code gives.
use Rattle.std.proofs.Common.{arith, ◌+◌, ◌*◌, ◌%◌}
use Rattle.calendar.proofs.Groups.{placed}
use Rattle.calendar.proofs.year_day.Goals as goal

pub returns : goal.returns
returns c =
    let t = c.args.n + 145731 in
    let q = 4 * (t % 146097) + 3 in
    placed c.args.n _ (t % 146097) _ (q % 146097) _ _ (omega arith) (omega arith) (omega arith) (omega arith) (omega arith) (omega arith)
