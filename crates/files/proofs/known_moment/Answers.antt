-- The instant of a record that reads is accepted, and its moment is above 0.
use Rattle.std.proofs.Common.{sym, ◌∙◌}
use Rattle.record.proofs.Unrefused.{read_accepted}
use Rattle.files.proofs.Places.{moment_known}
use Rattle.files.proofs.known_moment.Goals as goal

pub moment-requires : goal.moment-requires
moment-requires c = rw c.instant.ensures (read_accepted _ _ (sym c.known.ensures))

pub returns : goal.returns
returns c = c.moment.ensures ∙ rw c.instant.ensures (moment_known _ _ c.known.ensures)
