-- Behind the first file's record, behind the second's, or behind both.
use Rattle.std.proofs.Common.{arith}
use Rattle.compare.proofs.Steps.{first_room, first_known, second_room, second_known}
use Rattle.compare.proofs.Pair.next.Goals as goal

pub past_first-requires-clause-place : goal.past_first-requires-clause-place
past_first-requires-clause-place g c = first_room c.requires (omega arith)

pub past_first-requires-clause-known : goal.past_first-requires-clause-known
past_first-requires-clause-known g c = first_known c.requires (omega arith)

pub past_second-requires-clause-place : goal.past_second-requires-clause-place
past_second-requires-clause-place g c = second_room c.requires (omega arith)

pub past_second-requires-clause-known : goal.past_second-requires-clause-known
past_second-requires-clause-known g c = second_known c.requires (omega arith)

pub past_first-requires-2-clause-place : goal.past_first-requires-2-clause-place
past_first-requires-2-clause-place g c = first_room c.requires (omega arith)

pub past_first-requires-2-clause-known : goal.past_first-requires-2-clause-known
past_first-requires-2-clause-known g c = first_known c.requires (omega arith)

pub past_second-requires-2-clause-place : goal.past_second-requires-2-clause-place
past_second-requires-2-clause-place g c = rw c.past_first-2.ensures (second_room c.requires (omega arith))

pub past_second-requires-2-clause-known : goal.past_second-requires-2-clause-known
past_second-requires-2-clause-known g c = rw c.past_first-2.ensures (second_known c.requires (omega arith))
