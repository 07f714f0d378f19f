-- The bytes are refused, or they are accepted and the service over their rows answers.
use Rattle.std.proofs.Common.{◌≡◌, ℕ, List, Ok, Err, rules, sym, ap, ◌∙◌}
use Rattle.std.proofs.lemmas.Result.{err_from_is_err_and}
use Rattle.instants.proofs.FirstRefusal.{refused_checked}
use Rattle.row_bytes.specs.Form.{table_in, bytes_cases}
use Rattle.nutation.specs.Ours.{nutation_with, nutation_rows_of}
use Rattle.nutation.proofs.Promises.{rows_answered}
use Rattle.nutation.proofs.nutation_rows_of.Goals as goal

pub returns-in_err-t : goal.returns-in_err-t
unfolding nutation_rows_of
returns-in_err-t c =
    let n : c.read.result ≡ Err c.in_err-t.field-0.0 = search rules in
    let p = err_from_is_err_and c.from_residual.result c.from_residual.ensures.1 in
    p.1 ∙ ap Err p.2 ∙ sym (refused_checked Err (bytes_cases c.args.s.now) _ _ (rw n at c.read.ensures.refused))

pub returns : goal.returns
returns c =
    let n : c.read.result ≡ Ok c.in_ok-t.t = search rules in
    let t = rw n at c.read.ensures.table in
    c.nutation_with.ensures ∙ ap (λ (s : List ℕ). nutation_with (table_in s) c.args.at.day c.args.at.micros) t.0
    ∙ sym (rows_answered c.args.s.now t.1 c.args.at.day c.args.at.micros)
