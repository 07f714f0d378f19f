-- What stands in the buffer is the bytes and what was behind them, which is the definition.
use Rattle.std.proofs.Common.{rules}
use Rattle.bigendian.specs.Buffers.{at_front}
use Rattle.bigendian.proofs.copy.Goals as goal

pub returns-clause-buffer : goal.returns-clause-buffer
unfolding at_front
returns-clause-buffer c = search rules
