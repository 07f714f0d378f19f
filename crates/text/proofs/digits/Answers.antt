use Rattle.std.proofs.Common.{ap, length, arith}
use Rattle.text.proofs.Numerals.{numeral_one, numeral_longer, numeral_most}
use Rattle.text.proofs.digits.Goals as goal

pub overflow_add-k : goal.overflow_add-k
overflow_add-k c = omega (arith, numeral_most c.args.n)

pub loop-rest-preserved : goal.loop-rest-preserved
loop-rest-preserved c = (omega arith, omega (arith, numeral_longer c.loop-rest.rest (omega arith) (omega arith)))

pub returns : goal.returns
returns c = omega (arith, ap length (numeral_one c.loop-rest.rest (omega arith)))
