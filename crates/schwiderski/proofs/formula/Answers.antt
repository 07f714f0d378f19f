-- `schwiderski::formula` meets its contract, by the definition.
use Rattle.schwiderski.specs.Formula.{angles_of}
use Rattle.schwiderski.proofs.formula.Goals as goal

pub returns : goal.returns
unfolding angles_of
returns c = rw (c.angles.ensures, c.longitudes.ensures)
