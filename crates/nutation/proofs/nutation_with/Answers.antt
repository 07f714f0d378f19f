-- By the two cases of acceptance: the refusal is handed on, and an accepted instant's moment has its place among the rows.
use Rattle.std.proofs.Common.{Ok, Err, ℕ, ◌≡◌, sym, ap, ◌∙◌, subst}
use Rattle.std.proofs.lemmas.Result.{err_from_is_err_and}
use Rattle.instants.specs.Inner.{moment_answer}
use Rattle.instants.proofs.AcceptedMoment.{moment_answered, refused_moment, answered_moment}
use Rattle.rows.specs.declared.Place.{Place}
use Rattle.rows.specs.Places.{place}
use Rattle.rows.specs.Inner.{Placed}
use Rattle.rows.proofs.Places.{placed}
use Rattle.row_bytes.specs.Form.{table_in}
use Rattle.nutation.specs.Ours.{offsets_at}
use Rattle.nutation.proofs.nutation_with.Goals as goal

pub returns-in_err-moment : goal.returns-in_err-moment
returns-in_err-moment c =
    let p = err_from_is_err_and c.from_residual.result c.from_residual.ensures.1 in
    p.1 ∙ ap Err p.2 ∙ refused_moment Err _ c.args.at.day c.args.at.micros (sym c.in_err-moment.ensures)

pub offsets_of-requires : goal.offsets_of-requires
offsets_of-requires c =
    let rows = table_in c.args.t.bytes.now in
    subst (λ (p : Place). Placed p c.in_ok-moment.moment) (sym (c.place_at.ensures ∙ ap (place rows) c.micros.ensures.value)) (placed rows c.args.t.lent.accepted c.in_ok-moment.moment)

pub returns : goal.returns
returns c =
    let rows = table_in c.args.t.bytes.now in
    let e : moment_answer c.args.at.day c.args.at.micros ≡ Ok c.in_ok-moment.moment = sym c.in_ok-moment.ensures in
    ap Ok (c.offsets_of.ensures ∙ ap (λ (p : Place). offsets_at p c.in_ok-moment.moment) (c.place_at.ensures ∙ ap (place rows) c.micros.ensures.value)
    ∙ ap (λ (x : ℕ). offsets_at (place rows x) x) (sym (moment_answered _ _ _ e)))
    ∙ answered_moment Err _ c.args.at.day c.args.at.micros e
