-- Records follow each other from `from` to `at`, and the bytes from there on are left.
use Rattle.std.proofs.Common.{◌≡◌, drop}
use Rattle.std.specs.Slice.Iter.{chunks_exact_rest, chunks_exact_size}
use Rattle.record.specs.Format.{record_length}
use Rattle.rescue.proofs.Hops.{Linked}
use Rattle.rescue.proofs.records_end.Given as goal

abbrev pub invariant-loop-r : goal.invariant-loop-r
invariant-loop-r l =
    Linked l.s l.from l.at × (chunks_exact_rest l.r-iterator ≡ drop l.at l.s) × (chunks_exact_size l.r-iterator ≡ record_length)
