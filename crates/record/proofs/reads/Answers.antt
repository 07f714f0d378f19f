-- Without a head nothing reads.
use Rattle.std.proofs.Common.{sym, ◌∙◌}
use Rattle.record.proofs.Forms.{headless}
use Rattle.record.proofs.reads.Goals as goal

pub returns-else-is_ok : goal.returns-else-is_ok
returns-else-is_ok c = c.is_ok.ensures.value ∙ headless _ _ (sym c.head.ensures) (sym c.is_ok.ensures.value ∙ c.if-is_ok.false)
