-- `tide_cases::case_angles` meets its contract: 8 is an offset and 311.5 a day that the formula takes.
use lib.Ieee.{lt, le, eq, of_int, of_bits}
use Rattle.binary64.specs.Words.{decimal64}
use Rattle.tide_cases.proofs.case_angles.Goals as goal

pub formula-requires-clause-from : goal.formula-requires-clause-from
unfolding lt le eq of_int of_bits
formula-requires-clause-from c = tt

pub formula-requires-clause-below : goal.formula-requires-clause-below
unfolding lt le eq of_int of_bits
formula-requires-clause-below c = tt

pub returns : goal.returns
unfolding decimal64 of_bits
returns c = c.formula.ensures
