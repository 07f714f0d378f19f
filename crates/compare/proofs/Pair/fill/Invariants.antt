-- What is written, and what the walk still lists, are the whole list.
use Rattle.std.proofs.Common.{length, ◌-◌, ◌+◌}
use Rattle.compare.proofs.Writing.{Writing}
use Rattle.compare.proofs.Pair.fill.Given as goal

abbrev pub invariant-loop-done : goal.invariant-loop-done
invariant-loop-done l = Writing l.fn.self.s.now l.fn.self.t.now l.needed l.initial.list l.list l.p l.done

abbrev pub decreases-loop-done : goal.decreases-loop-done
decreases-loop-done l = length l.fn.self.s.now + length l.fn.self.t.now - (l.p.first + l.p.second)
