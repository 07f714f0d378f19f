-- The way between the rows is that of the definition (`between_is`).
use Rattle.std.proofs.Common.{ℕ, ◌*◌, ◌-◌, sym, ap, ◌∙◌}
use Rattle.instants.specs.Limits.{day_micros}
use Rattle.nutation.specs.Inner.{twice_between}
use Rattle.nutation.proofs.Rounding.{between_is}
use Rattle.nutation.proofs.uncertainty_between.Goals as goal

pub returns : goal.returns
returns c =
    let a = c.args.a in
    let b = c.args.b in
    c.uncertainty_mixed.ensures ∙ ap (λ (k : ℕ). twice_between a.uncertainty b.uncertainty ((b.day - a.day) * day_micros) (c.args.x - k)) c.moment.ensures
    ∙ sym (between_is a b c.args.x c.requires.2)
