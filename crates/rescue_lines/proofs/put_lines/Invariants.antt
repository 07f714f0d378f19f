-- The lines of the entries so far stand at the front of the buffer, at most 38 bytes each; the other entries are left.
use Rattle.std.proofs.Common.{◌≡◌, ◌*◌, ◌≤◌, length, drop}
use Rattle.std.specs.Slice.Iter.{chunks_exact_rest, chunks_exact_size}
use Rattle.rescue.specs.Rescue.{entry_length}
use Rattle.rescue.specs.Claims.{listed}
use Rattle.text.proofs.Pieces.{Puts}
use Rattle.rescue_lines.specs.Lines.{lines_text}
use Rattle.rescue_lines.specs.Inner.{line_most}
use Rattle.rescue_lines.proofs.put_lines.Given as goal

abbrev pub invariant-loop-entry : goal.invariant-loop-entry
invariant-loop-entry l =
    let k = length l.yielded in record {
      few : entry_length * k ≤ length l.list;
      left : chunks_exact_rest l.entry-iterator ≡ drop (entry_length * k) l.list;
      size : chunks_exact_size l.entry-iterator ≡ entry_length;
      short : l.end ≤ line_most * k;
      put : Puts (lines_text (listed k l.list)) l.initial.buffer l.end l.buffer;
    }
