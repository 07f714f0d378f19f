-- The word put in the place of the two zeros makes the sum 0, as the definition's does (checked).
use Rattle.std.proofs.Common.{◌≡◌, ◌+◌, ◌%◌, ◌<◌}
use Rattle.record.proofs.Whole.{checked}
use Rattle.record.proofs.Record.bytes.Goals as goal

pub returns : goal.returns
returns c =
    let z : (c.from.result + c.word_sum.result) % 65536 ≡ 0 = rw c.from.ensures c.wrapping_neg-check.ensures in
    let l : c.from.result < 65536 = rw c.from.ensures c.wrapping_neg-check.type_inv in
    checked c.args.w _ _ _ _ _ _ _ c.fields-s.ensures c.word_sum.ensures z l c.put.ensures
