-- The bytes are put from the last to the first; the invariant (Putting): the bytes still to be put, and what stands behind them, are together what is to
-- stand there in the end.
use Rattle.bigendian.proofs.Puts.{Putting}
use Rattle.bigendian.proofs.put.Given as goal

abbrev pub invariant-loop-k : goal.invariant-loop-k
invariant-loop-k l = Putting l.initial.s l.at l.size l.n l.s l.rest l.k
