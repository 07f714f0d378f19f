-- The word is put first, and the numeral behind it.
use Rattle.text.proofs.Pieces.{more_put}
use Rattle.text.proofs.put_counted.Goals as goal

pub returns-clause-buffer : goal.returns-clause-buffer
returns-clause-buffer c =
    (more_put _ _ _ _ (c.copy-end.ensures.size, c.copy-end.ensures.buffer) _ _ _ (c.put_numeral.ensures.size, c.put_numeral.ensures.buffer)).1
