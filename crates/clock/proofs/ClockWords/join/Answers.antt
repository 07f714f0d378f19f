-- `accept` decides first, and then the mark, which comes from the index of the day.
use Rattle.std.proofs.Common.{rules, ◌≡◌, sym, ap, arith, ◌∙◌, ◌%◌, Ok, Err, w64, FitsSigned}
use borrow.Author.Tests.{eq-eqb, ne_eqb}
use mir.Facts.{to_z-of_z}
use Rattle.std.proofs.lemmas.Result.{err_from_is_err_and}
use Rattle.instants.specs.Instants.{acceptance}
use Rattle.instants.proofs.Accepted.{AcceptedAt, accepted_at, refused_too}
use Rattle.clock.specs.Words.{mark_unit, join_of}
use Rattle.clock.proofs.Mark.{mark_index}
use Rattle.clock.proofs.ClockWords.join.Goals as goal

pub returns-in_err-i : goal.returns-in_err-i
unfolding join_of
returns-in_err-i c =
    let f : FitsSigned w64 c.args.self.day = search rules in
    let n : c.accept.result ≡ Err c.in_err-i.field-0.0 = search rules in
    let found : acceptance c.args.self.day (c.args.self.time % mark_unit) ≡ Err c.in_err-i.field-0.0 = rw (to_z-of_z f) at (sym c.accept.ensures ∙ n) in
    let p = err_from_is_err_and c.from_residual.result c.from_residual.ensures.1 in
    p.1 ∙ (ap Err p.2 ∙ refused_too Err _ _ _ found)

pub overflow_add-i : goal.overflow_add-i
overflow_add-i c =
    let f : FitsSigned w64 c.args.self.day = search rules in
    let e : c.accept.result ≡ Ok c.in_ok-i.i = search rules in
    let found : acceptance c.args.self.day (c.args.self.time % mark_unit) ≡ Ok c.in_ok-i.i = rw (to_z-of_z f) at (sym c.accept.ensures ∙ e) in
    omega (arith, (accepted_at _ _ _ found).high)

pub returns-then-self-i : goal.returns-then-self-i
unfolding join_of
returns-then-self-i c =
    let f : FitsSigned w64 c.args.self.day = search rules in
    let e : c.accept.result ≡ Ok c.in_ok-i.i = search rules in
    let found : acceptance c.args.self.day (c.args.self.time % mark_unit) ≡ Ok c.in_ok-i.i = rw (to_z-of_z f) at (sym c.accept.ensures ∙ e) in
    let k : AcceptedAt c.args.self.day (c.args.self.time % mark_unit) c.in_ok-i.i = accepted_at _ _ _ found in
    simp (k.inside, k.within, mark_index _ _ k.is, ne_eqb _ _ c.if-self-i.true)

pub returns : goal.returns
unfolding join_of
returns c =
    let f : FitsSigned w64 c.args.self.day = search rules in
    let e : c.accept.result ≡ Ok c.in_ok-i.i = search rules in
    let found : acceptance c.args.self.day (c.args.self.time % mark_unit) ≡ Ok c.in_ok-i.i = rw (to_z-of_z f) at (sym c.accept.ensures ∙ e) in
    let k : AcceptedAt c.args.self.day (c.args.self.time % mark_unit) c.in_ok-i.i = accepted_at _ _ _ found in
    simp (k.inside, k.within, mark_index _ _ k.is, eq-eqb _ _ c.if-self-i.false, to_z-of_z f)
