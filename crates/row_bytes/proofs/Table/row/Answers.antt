use Rattle.std.proofs.Common.{arith}
use Rattle.row_bytes.proofs.Reading.{table_count}
use Rattle.row_bytes.proofs.Table.row.Goals as goal

pub row-requires : goal.row-requires
row-requires c = omega (arith, c.requires, table_count c.args.self.bytes.now)
