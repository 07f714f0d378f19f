-- `binary64::Units::number` meets its contract: each product is exact but the last, which is rounded once.
use Rattle.std.proofs.Common.{arith}
use Rattle.std.proofs.lemmas.Float.{not_nan_f64_bits}
use Rattle.binary64.proofs.WholeUnits.{scaled, scale_plus, scale_minus}
use Rattle.binary64.proofs.Units.number.Goals as goal
use Rattle.binary64.proofs.Units.number.Goals.{then-self, else-self}

pub float_from_bits-scale : goal.float_from_bits-scale
float_from_bits-scale c = not_nan_f64_bits _ (omega (arith, c.args.self.near))

pub returns : goal.returns
returns c = elim c.if-self.branch [
  | then-self w ↦ rw (w.result-is, w.if-self.true) (scaled _ _ _ _ c.args.self.few (scale_minus _ c.args.self.near))
  | else-self w ↦ rw (w.result-is, w.if-self.false) (scaled _ _ _ _ c.args.self.few (scale_plus _ c.args.self.near))
]
