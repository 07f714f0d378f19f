-- By the two cases of acceptance: the moment of an accepted instant is that of its day's index and microseconds.
use Rattle.std.proofs.Common.{rules, ◌≡◌, ap, ◌∙◌, Ok, Err}
use Rattle.std.proofs.lemmas.Result.{err_from_is_err_and}
use Rattle.instants.specs.Inner.{moment_answer}
use Rattle.instants.proofs.AcceptedMoment.{moment_answered, refused_moment, answered_moment}
use Rattle.zonal.specs.Ours.{corrections_at, zonal_of}
use Rattle.zonal.specs.Inner.{corrections_then}
use Rattle.zonal.proofs.zonal_of.Goals as goal

pub returns-in_err-accepted : goal.returns-in_err-accepted
unfolding zonal_of
returns-in_err-accepted c =
    let e : moment_answer c.args.t.day c.args.t.micros ≡ Err c.in_err-accepted.field-0.0 = search rules in
    let p = err_from_is_err_and c.from_residual.result c.from_residual.ensures.1 in
    p.1 ∙ ap Err p.2 ∙ refused_moment Err _ _ _ e

pub returns : goal.returns
unfolding zonal_of corrections_at corrections_then
returns c =
    let e : moment_answer c.args.t.day c.args.t.micros ≡ Ok c.in_ok-accepted.field-0 = search rules in
    rw (c.corrections_at.ensures, ← moment_answered _ _ _ e) (answered_moment Err _ _ _ e)
