-- No step passes an i64.
use Rattle.std.proofs.Common.{◌≡◌, pos, to_z, w64, rules}
use Rattle.std.proofs.Math.Facts.{to_z_pos}
use Rattle.nutation.specs.Ours.{mixed}
use Rattle.nutation.proofs.Sizes.{mixed_first, mixed_apart, mixed_second, mixed_sum, mixed_fits}
use Rattle.nutation.proofs.mixed_of.Goals as goal

pub returns : goal.returns
unfolding mixed
returns c =
    let l : to_z w64 c.args.l ≡ pos c.args.l = to_z_pos w64 (search rules) in
    rw l (search (rules, mixed_first, mixed_apart, mixed_second, mixed_sum, mixed_fits))
