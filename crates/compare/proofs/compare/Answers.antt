-- A refused comparison leaves the list, any other is written.
use Rattle.std.proofs.Common.{ap, sym, ◌∙◌, arith, Err}
use Rattle.std.proofs.lemmas.Result.{err_from_is_err_and}
use Rattle.compare.proofs.Answers.{given_few, given_fits, test_refused, test_passed, list_given, list_refused}
use Rattle.compare.proofs.compare.Goals as goal

pub returns-in_err-n-clause-refusal : goal.returns-in_err-n-clause-refusal
returns-in_err-n-clause-refusal c =
    let p = err_from_is_err_and c.from_residual.result c.from_residual.ensures.1 in
    p.1 ∙ (ap Err p.2 ∙ sym (test_refused _ _ _ _ (sym c.in_err-n.ensures)))

pub returns-in_err-n-clause-list : goal.returns-in_err-n-clause-list
returns-in_err-n-clause-list c = sym (list_refused _ _ _ _ (sym c.in_err-n.ensures))

pub overflow_mul-n : goal.overflow_mul-n
overflow_mul-n c = omega (arith, given_few _ _ _ _ (sym c.in_ok-n.ensures))

pub fill-requires : goal.fill-requires
fill-requires c = given_fits _ _ _ _ (sym c.in_ok-n.ensures)

pub returns-clause-refusal : goal.returns-clause-refusal
returns-clause-refusal c = sym (test_passed _ _ _ _ (sym c.in_ok-n.ensures))

pub returns-clause-list : goal.returns-clause-list
returns-clause-list c = c.fill.ensures ∙ sym (list_given _ _ _ _ (sym c.in_ok-n.ensures))
