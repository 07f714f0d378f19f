-- `tide::quartic` meets its contract, by the definition.
use Rattle.std.proofs.Common.{refl}
use Rattle.tide.specs.Delaunay.{horner}
use Rattle.tide.proofs.quartic.Goals as goal

pub returns : goal.returns
unfolding horner
returns c = refl
