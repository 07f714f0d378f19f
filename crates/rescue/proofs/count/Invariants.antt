-- What is counted, and what the walk from `at` still gives, are the whole walk's.
use Rattle.std.proofs.Common.{◌≡◌}
use Rattle.rescue.proofs.Rounds.{Counted}
use Rattle.rescue.proofs.count.Given as goal

abbrev pub invariant-loop-t : goal.invariant-loop-t
invariant-loop-t l = (l.t-iterator.s.now ≡ l.s) × Counted l.s l.t-iterator.at l.kept l.ranges
