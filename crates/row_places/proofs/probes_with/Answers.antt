-- By the two cases of acceptance: the refusal is handed on, and an accepted instant is looked up at its moment.
use Rattle.std.proofs.Common.{Ok, Err, ◌≡◌, sym, ap, ◌∙◌}
use Rattle.std.proofs.lemmas.Result.{err_from_is_err_and}
use Rattle.instants.specs.Inner.{moment_answer}
use Rattle.instants.proofs.AcceptedMoment.{moment_answered, refused_moment, answered_moment}
use Rattle.row_bytes.specs.Form.{table_in}
use Rattle.row_places.specs.declared.Bracket.{Bracket}
use Rattle.row_places.specs.Lookup.{lookup_of}
use Rattle.row_places.proofs.probes_with.Goals as goal

pub returns-in_err-moment : goal.returns-in_err-moment
returns-in_err-moment c =
    let p = err_from_is_err_and c.from_residual.result c.from_residual.ensures.1 in
    p.1 ∙ ap Err p.2 ∙ refused_moment Err _ c.args.at.day c.args.at.micros (sym c.in_err-moment.ensures)

pub returns : goal.returns
returns c =
    let e : moment_answer c.args.at.day c.args.at.micros ≡ Ok c.in_ok-moment.moment = sym c.in_ok-moment.ensures in
    ap (λ (b : Bracket). Ok b.probes) (c.lookup.ensures ∙ ap (lookup_of (table_in c.args.t.bytes.now)) (c.micros.ensures.value ∙ sym (moment_answered _ _ _ e)))
    ∙ answered_moment Err _ c.args.at.day c.args.at.micros e
