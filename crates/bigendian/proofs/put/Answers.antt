use Rattle.std.proofs.Common.{◌≡◌, suc, ◌-◌, arith}
use Rattle.bigendian.proofs.Puts.{put_more}
use Rattle.bigendian.proofs.put.Goals as goal

pub loop-k-preserved : goal.loop-k-preserved
loop-k-preserved c =
    let e : c.loop-k.k ≡ suc (c.loop-k.k - 1) = omega arith in
    put_more (omega (arith, c.loop-k.invariant.same, c.loop-k.invariant.fits)) (rw e at c.loop-k.invariant)
