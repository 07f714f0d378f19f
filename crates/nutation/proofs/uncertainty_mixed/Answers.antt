-- Whole days and the rest of a day are rounded up one after the other, which gives the same.
use Rattle.std.proofs.Common.{ℕ, ◌+◌, ◌*◌, ◌-◌, ◌/◌, ap, ◌∙◌}
use Rattle.instants.specs.Limits.{day_micros}
use Rattle.nutation.specs.Exact.{round_up}
use Rattle.nutation.proofs.Rounding.{between_steps}
use Rattle.nutation.proofs.uncertainty_mixed.Goals as goal

pub returns : goal.returns
returns c =
    let u = c.args.u in
    let v = c.args.v in
    let p = c.args.days in
    let n = c.args.after in
    c.round_up.ensures
    ∙ ap (λ (k : ℕ). round_up (20 * (u * (p - 1 - n / day_micros) + v * (n / day_micros)) + k) p) c.round_up-part.ensures
    ∙ between_steps u v p n c.requires.way.days_positive c.requires.way.less
