-- The invariant (DigitsLeft): the digits still to be put, and what stands behind them, are together what is to stand there in the end.
use Rattle.text.proofs.LastFirst.{DigitsLeft}
use Rattle.text.proofs.put_numeral.Given as goal

abbrev pub invariant-loop-k : goal.invariant-loop-k
invariant-loop-k l = DigitsLeft l.initial.buffer l.n l.size l.buffer l.rest l.k
