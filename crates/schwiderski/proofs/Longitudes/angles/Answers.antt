-- `schwiderski::Longitudes::angles` meets its contract: each of the eleven calls has its row of the definition.
use lib.Ieee.{neg, of_bits}
use Rattle.binary64.specs.Words.{decimal64}
use Rattle.schwiderski.specs.Formula.{sums, reduced_each}
use Rattle.schwiderski.proofs.Longitudes.angles.Goals as goal

pub returns : goal.returns
unfolding sums reduced_each decimal64 neg of_bits
returns c =
    rw (
      c.angle-11.ensures,
      c.angle-10.ensures,
      c.angle-9.ensures,
      c.angle-8.ensures,
      c.angle-7.ensures,
      c.angle-6.ensures,
      c.angle-5.ensures,
      c.angle-4.ensures,
      c.angle-3.ensures,
      c.angle-2.ensures,
      c.angle.ensures,
    )
