-- `binary64::Units::of` meets its contract: it reads the fields of the bits.
use Rattle.std.proofs.Common.{arith}
use Rattle.binary64.proofs.WholeUnits.{number, low_units, high_units}
use Rattle.binary64.proofs.Units.of.Goals as goal

pub float_to_bits-bits : goal.float_to_bits-bits
float_to_bits-bits c = number c.args.x c.requires

pub returns-then-exponent-eq0-clause-value : goal.returns-then-exponent-eq0-clause-value
returns-then-exponent-eq0-clause-value c = low_units c.args.x c.well_formed.0.1 c.if-exponent-eq0.true

pub invariant_of-result-2 : goal.invariant_of-result-2
invariant_of-result-2 c = record {
  few = omega arith;
  near = (high_units c.args.x c.well_formed.0.1 c.requires (omega (arith, c.if-exponent-eq0.false))).1;
}

pub returns-clause-value : goal.returns-clause-value
returns-clause-value c = (high_units c.args.x c.well_formed.0.1 c.requires (omega (arith, c.if-exponent-eq0.false))).0
