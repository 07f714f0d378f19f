use Rattle.files.specs.Inner.{sound}
use Rattle.compare.proofs.Pair.start.Goals as goal

pub moment_at-requires-clause-known : goal.moment_at-requires-clause-known
unfolding sound
moment_at-requires-clause-known g c = λ k. (c.requires k).0

pub moment_at-requires-2-clause-known : goal.moment_at-requires-2-clause-known
unfolding sound
moment_at-requires-2-clause-known g c = λ k. (c.requires k).1
