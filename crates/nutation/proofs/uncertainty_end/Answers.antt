-- 20 times the row's uncertainty is whole.
use Rattle.std.proofs.Common.{◌≡◌, ℕ, ◌+◌, ◌*◌, sym, ap, ap₂, ◌∙◌}
use Rattle.instants.specs.Limits.{day_micros}
use Rattle.algebra.specs.Integers.{dist}
use Rattle.rows.specs.Places.{row_moment}
use Rattle.nutation.specs.Exact.{round_up}
use Rattle.nutation.proofs.Rounding.{end_is}
use Rattle.nutation.proofs.uncertainty_end.Goals as goal

pub returns : goal.returns
returns c =
    let q : c.abs_diff.result ≡ dist c.args.at (row_moment c.args.r) = c.abs_diff.ensures ∙ ap₂ dist c.micros.ensures.value c.moment.ensures in
    ap (λ (k : ℕ). 20 * c.args.r.uncertainty + k) (c.round_up.ensures ∙ ap (λ (k : ℕ). round_up (265 * k) day_micros) q) ∙ sym (end_is c.args.r c.args.at)
