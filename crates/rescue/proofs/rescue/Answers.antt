-- A refused rescue leaves both buffers, any other is filled in.
use Rattle.std.proofs.Common.{length, sym, ◌∙◌}
use Rattle.std.proofs.lemmas.Result.{err_from_is_err_and}
use Rattle.rescue.proofs.Answers.{given_fits, passed, records_given, list_given, checked, records_refused, list_refused}
use Rattle.rescue.proofs.rescue.Goals as goal

pub returns-in_err-rescue_of-clause-refusal : goal.returns-in_err-rescue_of-clause-refusal
returns-in_err-rescue_of-clause-refusal c =
    let p = err_from_is_err_and c.from_residual.result c.from_residual.ensures.1 in
    rw (p.1, p.2) (sym (checked c.args.s.now c.args.records.now c.args.list.now _ (sym c.in_err-rescue_of.ensures)))

pub returns-in_err-rescue_of-clause-records : goal.returns-in_err-rescue_of-clause-records
returns-in_err-rescue_of-clause-records c = sym (records_refused c.args.s.now c.args.records.now c.args.list.now _ (sym c.in_err-rescue_of.ensures))

pub returns-in_err-rescue_of-clause-list : goal.returns-in_err-rescue_of-clause-list
returns-in_err-rescue_of-clause-list c = sym (list_refused c.args.s.now c.args.records.now c.args.list.now _ (sym c.in_err-rescue_of.ensures))

pub fill-requires : goal.fill-requires
fill-requires c = given_fits c.args.s.now (length c.args.records.now) (length c.args.list.now) _ (sym c.in_ok-rescue_of.ensures)

pub returns-clause-refusal : goal.returns-clause-refusal
returns-clause-refusal c = sym (passed c.args.s.now (length c.args.records.now) (length c.args.list.now) _ (sym c.in_ok-rescue_of.ensures))

pub returns-clause-records : goal.returns-clause-records
returns-clause-records c =
    c.fill.ensures.records ∙ sym (records_given c.args.s.now c.args.records.now c.args.list.now _ (sym c.in_ok-rescue_of.ensures))

pub returns-clause-list : goal.returns-clause-list
returns-clause-list c =
    c.fill.ensures.list ∙ sym (list_given c.args.s.now c.args.records.now c.args.list.now _ (sym c.in_ok-rescue_of.ensures))
