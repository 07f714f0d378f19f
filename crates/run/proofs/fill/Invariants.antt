-- The first k records stand at the front, and behind them the buffer is as it was, so that the next record's call, which is lent all from there on,
-- adds one.
use Rattle.run.proofs.Records.{Filled}
use Rattle.run.proofs.fill.Given as goal

abbrev pub invariant-loop-k : goal.invariant-loop-k
invariant-loop-k l = Filled l.fn.start.day l.fn.start.micros l.fn.count l.fn.step l.fn.buffer l.buffer l.k
