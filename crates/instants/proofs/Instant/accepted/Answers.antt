-- An accepted instant's day has an index of the range, so that its moment is not after the last; a refusal is handed on.
use Rattle.std.proofs.Common.{rules, ◌≡◌, ◌∙◌, ◌<◌, ◌≤◌, ℕ, ℤ, sym, ap, arith, Ok, Err}
use Rattle.std.proofs.lemmas.Result.{err_from_is_err_and}
use Rattle.instants.specs.Limits.{days_covered}
use Rattle.instants.specs.Instants.{acceptance}
use Rattle.instants.specs.Moments.{moment, moment_of, latest}
use Rattle.instants.specs.Inner.{moment_answer}
use Rattle.instants.proofs.Accepted.{AcceptedAt, accepted_at, refused_too, answered_too}
use Rattle.instants.proofs.Instant.accepted.Goals as goal

module _ (d : ℤ) (m i : ℕ) (e : acceptance d m ≡ Ok i) where
  at : AcceptedAt d m i
  at = accepted_at d m i e

  covered : i < days_covered
  covered = omega (arith, at.high)

  in_range : moment i m ≤ latest
  in_range = omega (arith, covered, at.less)

  answers : Ok (moment i m) ≡ moment_answer d m
  unfolding moment_answer
  answers = ap (λ (k : ℕ). Ok (moment k m)) (sym at.index) ∙ answered_too Err (Ok (moment_of d m)) d m e

pub returns-in_err-accept : goal.returns-in_err-accept
unfolding moment_answer
returns-in_err-accept c =
    let p = err_from_is_err_and c.from_residual.result c.from_residual.ensures.1 in
    let e : acceptance c.args.self.day c.args.self.micros ≡ Err c.in_err-accept.field-0.0 = search rules in
    rw (p.1, p.2) (refused_too Err (Ok (moment_of c.args.self.day c.args.self.micros)) c.args.self.day c.args.self.micros e)

pub moment-requires-clause-index : goal.moment-requires-clause-index
moment-requires-clause-index c =
    let e : acceptance c.args.self.day c.args.self.micros ≡ Ok c.in_ok-accept.field-0 = search rules in
    covered _ _ _ e

pub moment-requires-clause-micros : goal.moment-requires-clause-micros
moment-requires-clause-micros c =
    let e : acceptance c.args.self.day c.args.self.micros ≡ Ok c.in_ok-accept.field-0 = search rules in
    (at _ _ _ e).less

pub new-requires : goal.new-requires
new-requires c =
    let e : acceptance c.args.self.day c.args.self.micros ≡ Ok c.in_ok-accept.field-0 = search rules in
    rw c.moment.ensures (in_range _ _ _ e)

pub returns : goal.returns
returns c =
    let e : acceptance c.args.self.day c.args.self.micros ≡ Ok c.in_ok-accept.field-0 = search rules in
    ap Ok (c.new.ensures ∙ c.moment.ensures) ∙ answers _ _ _ e
