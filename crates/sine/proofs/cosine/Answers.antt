-- The cosine is the sine of a quarter turn more, which is reduced to what is left of the quarter turn.
use Rattle.std.proofs.Common.{rules, ◌∙◌, w64}
use Rattle.std.proofs.Math.Facts.{to_z-of_z}
use Rattle.sine.specs.Ours.{our_cosine}
use Rattle.sine.proofs.Cases.{sine_by, quarter_more}
use Rattle.sine.proofs.cosine.Goals as goal

pub returns : goal.returns
unfolding our_cosine
returns c =
    to_z-of_z {w = w64} (search rules)
    ∙ sine_by _ _ c.sine_quarter.result c.signed.result c.sine_quarter.ensures c.signed.ensures.first c.signed.ensures.second
    (quarter_more _ c.reduced.result (search rules) c.reduced.ensures.quarters)
