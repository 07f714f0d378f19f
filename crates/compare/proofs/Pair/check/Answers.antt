-- The cases of the second file are behind those of the first.
use Rattle.std.proofs.Common.{ap, sym, ◌∙◌, Err}
use Rattle.std.proofs.lemmas.Result.{err_from_is_err_and}
use Rattle.compare.proofs.Answers.{first_refuses, second_tested}
use Rattle.compare.proofs.Pair.check.Goals as goal

pub returns-in_err-check : goal.returns-in_err-check
returns-in_err-check c =
    let p = err_from_is_err_and c.from_residual.result c.from_residual.ensures.1 in
    p.1 ∙ (ap Err p.2 ∙ sym (first_refuses _ _ _ (sym c.in_err-check.ensures)))

pub returns : goal.returns
returns c = c.check-2.ensures ∙ sym (second_tested _ _ _ (sym c.in_ok-check.ensures))
