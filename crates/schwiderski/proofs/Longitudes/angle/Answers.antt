-- `schwiderski::Longitudes::angle` meets its contract, by the definition: what is reduced is the sum in its order.
use lib.Ieee.{of_bits}
use Rattle.binary64.specs.Words.{decimal64}
use Rattle.schwiderski.specs.Formula.{two_pi, angle_sum}
use Rattle.schwiderski.proofs.Longitudes.angle.Goals as goal

pub returns : goal.returns
unfolding angle_sum two_pi decimal64 of_bits
returns c = c.reduce.ensures
