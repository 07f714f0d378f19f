-- `binary64::reduce` meets its contract, by the test of the definition.
use lib.Ieee.{of_bits}
use Rattle.binary64.specs.Reduction.{raised, reduced}
use Rattle.binary64.proofs.reduce.Goals as goal

pub returns-then-r : goal.returns-then-r
unfolding reduced raised of_bits
returns-then-r c = rw (← c.remainder-r.ensures, c.if-r.true) c.settle.ensures

pub returns-else-r : goal.returns-else-r
unfolding reduced raised of_bits
returns-else-r c = rw (← c.remainder-r.ensures, c.if-r.false) c.settle-else-r.ensures
