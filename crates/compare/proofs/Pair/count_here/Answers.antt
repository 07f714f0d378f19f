-- Where the moments are one, both records are there.
use Rattle.std.proofs.Common.{arith}
use Rattle.compare.proofs.Steps.{first_found, second_found, found_reads}
use Rattle.compare.proofs.Pair.count_here.Goals as goal

pub record_at-requires : goal.record_at-requires
record_at-requires c = found_reads (first_found c.requires (omega arith))

pub record_at-requires-2 : goal.record_at-requires-2
record_at-requires-2 c = found_reads (second_found c.requires (omega arith))
