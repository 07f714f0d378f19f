-- What is written, and what the walk from `at` still gives, are the whole answer.
use Rattle.std.proofs.Common.{◌≡◌}
use Rattle.rescue.proofs.Rounds.{Written}
use Rattle.rescue.proofs.fill.Given as goal

abbrev pub invariant-loop-t : goal.invariant-loop-t
invariant-loop-t l =
    (l.t-iterator.s.now ≡ l.s) × Written l.s l.initial.records l.initial.list l.records l.list l.t-iterator.at l.kept l.listed
