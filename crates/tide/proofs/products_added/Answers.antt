-- `tide::products_added` meets its contract: the fold over the pairs is that of the definition.
use Rattle.std.proofs.Common.{rules, tests}
use Rattle.std.proofs.lemmas.Iterator.{YieldsList-from_slice, YieldsList-from_zip}
use Rattle.std.proofs.lemmas.Iterator.Consumers.{fold_from_yields_List}
use lib.Ieee.{of_bits}
use Rattle.binary64.specs.Words.{◌⊕◌, ◌⊗◌}
use Rattle.tide.proofs.products_added.Goals as goal

pub returns : goal.returns
unfolding of_bits
returns c =
    fold_from_yields_List _ (λ s p. s ⊕ p.0 ⊗ p.1) _ _ c.fold.ensures.ran (YieldsList-from_zip (YieldsList-from_slice c.args.k.now (cc)) (YieldsList-from_slice c.args.x.now (cc)))
    (λ a x b q k. search (rules, tests))
