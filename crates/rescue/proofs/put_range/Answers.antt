use Rattle.rescue.proofs.Entries.{range_none}
use Rattle.rescue.proofs.put_range.Goals as goal

pub returns-clause-list : goal.returns-clause-list
returns-clause-list c = range_none c.args.from c.args.to c.args.list.now c.if-from-to.false
