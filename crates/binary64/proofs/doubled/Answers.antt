-- `binary64::doubled` meets its contract: a remainder doubled is below twice the divisor.
use Rattle.binary64.proofs.WholeUnits.{double_below, double_over}
use Rattle.binary64.proofs.doubled.Goals as goal
use Rattle.binary64.proofs.doubled.Goals.{then-r-b, else-r-b}

pub loop-i-preserved : goal.loop-i-preserved
loop-i-preserved c = elim c.if-r-b.branch [
  | then-r-b w ↦ rw w.r-is (double_over _ _ _ _ c.requires.some c.loop-i.invariant w.if-r-b.true)
  | else-r-b w ↦ rw w.r-is (double_below _ _ _ _ c.loop-i.invariant w.if-r-b.false)
]
