-- The refusal of the file is what is left to decide.
use Rattle.std.proofs.Common.{◌≡◌}
use Rattle.instants.specs.Refusals as refusals
use Rattle.files.specs.Files.{answers_in, file_cases}
use Rattle.files.proofs.Refused.{left}
use Rattle.files.proofs.check.Given as goal

abbrev pub invariant-loop-bytes : goal.invariant-loop-bytes
invariant-loop-bytes l =
    record {
      size : l.bytes-iterator.size ≡ 30;
      decided : refusals.check (file_cases l.s) ≡ left l.rise l.last (answers_in l.bytes-iterator.rest.now);
    }
