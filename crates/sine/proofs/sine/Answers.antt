-- The angle is reduced to a quarter turn, and above a half turn the sine there is taken with a minus.
use Rattle.std.proofs.Common.{rules, ◌∙◌, w64}
use Rattle.std.proofs.Math.Facts.{to_z-of_z}
use Rattle.sine.proofs.Cases.{sine_by}
use Rattle.sine.proofs.sine.Goals as goal

pub returns : goal.returns
returns c =
    to_z-of_z {w = w64} (search rules)
    ∙ sine_by _ c.reduced.result c.sine_quarter.result c.signed.result c.sine_quarter.ensures c.signed.ensures.first c.signed.ensures.second c.reduced.ensures.quarters
