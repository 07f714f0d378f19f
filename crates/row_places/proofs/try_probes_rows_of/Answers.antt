-- The bytes are refused, or they are accepted and the lookup is among their rows.
use Rattle.std.proofs.Common.{◌≡◌, ℕ, List, Result, Err, ap, ◌∙◌}
use Rattle.std.specs.Result.{result_unwrap_or}
use Rattle.std.proofs.lemmas.Result.{err_from_is_err_and}
use Rattle.instants.specs.declared.refusal.Refusal.{Refusal}
use Rattle.row_bytes.specs.Form.{table_in}
use Rattle.row_places.specs.Inner.{probes_answer, probes_rows_answer}
use Rattle.row_places.proofs.Probes.{rows_refused, rows_looked_up, rows_answer_number}
use Rattle.row_places.proofs.try_probes_rows_of.Goals as goal

pub returns-in_err-read-clause-answer : goal.returns-in_err-read-clause-answer
returns-in_err-read-clause-answer c =
    let p = err_from_is_err_and c.from_residual.result c.from_residual.ensures.1 in
    p.1 ∙ ap Err p.2 ∙ rows_refused c.args.s.now c.args.at.day c.args.at.micros _ c.in_err-read.ensures.refused

pub returns-in_err-read-clause-number : goal.returns-in_err-read-clause-number
returns-in_err-read-clause-number c =
    let p = err_from_is_err_and c.from_residual.result c.from_residual.ensures.1 in
    let e = p.1 ∙ ap Err p.2 ∙ rows_refused c.args.s.now c.args.at.day c.args.at.micros _ c.in_err-read.ensures.refused in
    ap (λ (r : Result ℕ Refusal). result_unwrap_or r 0) e ∙ rows_answer_number c.args.s.now c.args.at.day c.args.at.micros

pub returns-clause-answer : goal.returns-clause-answer
returns-clause-answer c =
    let t = c.in_ok-read.ensures.table in
    c.probes_with.ensures ∙ ap (λ (s : List ℕ). probes_answer (table_in s) c.args.at.day c.args.at.micros) t.0
    ∙ rows_looked_up c.args.s.now c.args.at.day c.args.at.micros t.1

pub returns-clause-number : goal.returns-clause-number
returns-clause-number c =
    let t = c.in_ok-read.ensures.table in
    let e : c.probes_with.result ≡ probes_rows_answer c.args.s.now c.args.at.day c.args.at.micros =
    c.probes_with.ensures ∙ ap (λ (s : List ℕ). probes_answer (table_in s) c.args.at.day c.args.at.micros) t.0
    ∙ rows_looked_up c.args.s.now c.args.at.day c.args.at.micros t.1 in
    ap (λ (r : Result ℕ Refusal). result_unwrap_or r 0) e ∙ rows_answer_number c.args.s.now c.args.at.day c.args.at.micros
