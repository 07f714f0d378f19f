-- A refused run leaves the buffer, any other is filled in.
use Rattle.std.proofs.Common.{rules, ◌≡◌, ◌∙◌, sym, Ok, Err}
use Rattle.run.proofs.Records.{run_refused, run_passed}
use Rattle.run.proofs.write.Goals as goal

pub returns-in_err-accept-clause-buffer : goal.returns-in_err-accept-clause-buffer
returns-in_err-accept-clause-buffer c =
    let n : c.accept.result ≡ Err c.in_err-accept.field-0.0 = search rules in
    sym (run_refused _ _ _ _ _ (sym c.accept.ensures ∙ n))

pub fill-requires : goal.fill-requires
fill-requires c = let n : c.accept.result ≡ Ok c.in_ok-accept.field-0 = search rules in (run_passed _ _ _ _ _ (sym c.accept.ensures ∙ n)).0

pub returns-clause-buffer : goal.returns-clause-buffer
returns-clause-buffer c =
    let n : c.accept.result ≡ Ok c.in_ok-accept.field-0 = search rules in
    c.fill.ensures ∙ sym (run_passed c.args.start.day c.args.start.micros c.args.count c.args.step c.args.buffer.now (sym c.accept.ensures ∙ n)).1
