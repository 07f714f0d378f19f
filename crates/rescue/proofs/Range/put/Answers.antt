-- Two numbers are put, one behind the other.
use Rattle.rescue.proofs.Entries.{entry_put}
use Rattle.rescue.proofs.Range.put.Goals as goal

pub returns : goal.returns
returns c = entry_put c.args.self.start c.args.self.size c.args.list.now _ _ c.put.ensures c.put-2.ensures
