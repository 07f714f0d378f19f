-- The entries that are counted, and those that the walk still lists, are all.
use Rattle.std.proofs.Common.{length, ◌-◌, ◌+◌}
use Rattle.compare.proofs.Steps.{Counting}
use Rattle.compare.proofs.Pair.count.Given as goal

abbrev pub invariant-loop-p : goal.invariant-loop-p
invariant-loop-p l = Counting l.fn.self.s.now l.fn.self.t.now l.p l.entries

abbrev pub decreases-loop-p : goal.decreases-loop-p
decreases-loop-p l = length l.fn.self.s.now + length l.fn.self.t.now - (l.p.first + l.p.second)
