-- The bytes of the built-in rows are accepted, and their rows are read back.
use Rattle.std.proofs.Common.{◌≡◌, ℕ, List, Result, sym, ap, ◌∙◌, subst}
use Rattle.std.specs.Result.{result_unwrap_or}
use Rattle.instants.specs.declared.refusal.Refusal.{Refusal}
use Rattle.rows.specs.declared.Row.{Row}
use Rattle.rows.specs.BuiltIn.{built_in}
use Rattle.row_bytes.specs.Form.{table_in}
use Rattle.row_bytes.specs.Inner.{Lent}
use Rattle.row_bytes.proofs.Round.{built_in_lent, built_in_back}
use Rattle.row_places.specs.Lookup.{probes_of}
use Rattle.row_places.specs.Inner.{probes_answer}
use Rattle.row_places.proofs.Probes.{answer_number}
use Rattle.row_places.proofs.try_probes_of.Goals as goal

pub invariant_of-probes_with : goal.invariant_of-probes_with
invariant_of-probes_with c = record { lent = subst Lent (sym c.built_in-s.ensures) built_in_lent }

pub returns-clause-answer : goal.returns-clause-answer
returns-clause-answer c =
    c.probes_with.ensures ∙ ap (λ (rows : List Row). probes_answer rows c.args.at.day c.args.at.micros) (ap table_in c.built_in-s.ensures ∙ built_in_back)

pub returns-clause-number : goal.returns-clause-number
unfolding probes_of
returns-clause-number c =
    let d = c.args.at.day in
    let m = c.args.at.micros in
    let e : c.probes_with.result ≡ probes_answer built_in d m =
    c.probes_with.ensures ∙ ap (λ (rows : List Row). probes_answer rows d m) (ap table_in c.built_in-s.ensures ∙ built_in_back) in
    ap (λ (r : Result ℕ Refusal). result_unwrap_or r 0) e ∙ answer_number built_in d m
