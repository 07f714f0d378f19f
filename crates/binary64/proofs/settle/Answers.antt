-- `binary64::settle` meets its contract, by the two tests of the definition.
use lib.Ieee.{of_bits}
use Rattle.binary64.specs.Reduction.{settled}
use Rattle.binary64.proofs.settle.Goals as goal

pub returns-then-q : goal.returns-then-q
unfolding settled of_bits
returns-then-q c = rw (c.if-q-period.true, c.if-q.true)

pub returns-else-q : goal.returns-else-q
unfolding settled of_bits
returns-else-q c = rw (c.if-q-period.true, c.if-q.false)

pub returns-else-q-period : goal.returns-else-q-period
unfolding settled of_bits
returns-else-q-period c = rw c.if-q-period.false
