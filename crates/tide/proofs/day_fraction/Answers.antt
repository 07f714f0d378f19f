-- `tide::day_fraction` meets its contract, by the definition.
use Rattle.std.proofs.Common.{refl}
use lib.Ieee.{of_int, of_bits}
use Rattle.tide.specs.Tidal.{day_fraction}
use Rattle.tide.proofs.day_fraction.Goals as goal

pub returns : goal.returns
unfolding day_fraction of_int of_bits
returns c = refl
