-- No record stands at a place from `from` on and before `place`.
use Rattle.rescue.proofs.Hops.{Looked}
use Rattle.rescue.proofs.next_record.Given as goal

abbrev pub invariant-loop-place : goal.invariant-loop-place
invariant-loop-place l = Looked l.s l.from l.place
