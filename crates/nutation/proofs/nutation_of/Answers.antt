-- The bytes of the built-in rows are accepted, and their rows are read back.
use Rattle.std.proofs.Common.{List, sym, ap, ◌∙◌, subst}
use Rattle.rows.specs.declared.Row.{Row}
use Rattle.row_bytes.specs.Form.{table_in}
use Rattle.row_bytes.specs.Inner.{Lent}
use Rattle.row_bytes.proofs.Round.{built_in_lent, built_in_back}
use Rattle.nutation.specs.Ours.{nutation_with, nutation_of}
use Rattle.nutation.proofs.nutation_of.Goals as goal

pub invariant_of-nutation_with : goal.invariant_of-nutation_with
invariant_of-nutation_with c = record { lent = subst Lent (sym c.built_in-s.ensures) built_in_lent }

pub returns : goal.returns
unfolding nutation_of
returns c = c.nutation_with.ensures ∙ ap (λ (rows : List Row). nutation_with rows c.args.at.day c.args.at.micros) (ap table_in c.built_in-s.ensures ∙ built_in_back)
