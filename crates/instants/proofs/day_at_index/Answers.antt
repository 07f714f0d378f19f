-- An index and the offset are small, so their difference fits.
use Rattle.std.proofs.Common.{arith, w64}
use mir.Facts.{to_z_pos, to_z-of_z}
use Rattle.instants.proofs.Signs.{sub_fits}
use Rattle.instants.specs.Limits.{index_offset}
use Rattle.instants.specs.Instants.{day_at_index}
use Rattle.instants.proofs.day_at_index.Goals as goal

pub returns : goal.returns
unfolding day_at_index
returns c = rw (to_z_pos w64 {n = c.args.n} (omega arith)) (to_z-of_z (sub_fits c.args.n index_offset (omega arith) (omega arith)))
