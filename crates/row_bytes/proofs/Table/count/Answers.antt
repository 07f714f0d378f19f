use Rattle.std.proofs.Common.{sym, ◌∙◌}
use Rattle.row_bytes.proofs.Reading.{table_count}
use Rattle.row_bytes.proofs.Table.count.Goals as goal

pub returns : goal.returns
returns c = c.count.ensures ∙ sym (table_count c.args.self.bytes.now)
