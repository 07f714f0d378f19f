-- `tide::tide_of` meets its contract: both answers are made at the reading's instant for phases, or are its refusal.
use Rattle.std.proofs.Common.{◌≡◌, ◌∙◌, ap, sym, rules}
use Rattle.std.proofs.lemmas.Result.{err_from_is_err_and}
use Rattle.instants.proofs.Impossible.{impossible}
use Rattle.utc.specs.PhaseInstants.{PhaseInstant}
use Rattle.utc.specs.Inner.{parts_of, phase_answer}
use Rattle.utc.specs.declared.Reading.{Reading}
use Rattle.utc.specs.declared.PhaseParts.{PhaseParts}
use Rattle.utc.proofs.PhaseInstants.{at_both, phase_is, answer_together}
use Rattle.tide.specs.Tidal.{arguments_at, answer_of, tide_of}
use Rattle.tide.specs.declared.Arguments.{Arguments}
use Rattle.tide.specs.declared.Doodson.{Doodson}
use Rattle.tide.proofs.tide_of.Goals as goal
use Rattle.std.specs.Prelude.{Result, Ok, Err}
use Rattle.tide.specs.declared.Constituent.{Constituent}
use Rattle.instants.specs.declared.refusal.Refusal.{Refusal}

module _ (r : Reading) (k : Doodson) where
  -- where the parts are given, the answer is that of their arguments
  answered : (x : PhaseParts) (a : Arguments) → ((p : PhaseInstant) → x ≡ parts_of p → a ≡ arguments_at p) → phase_answer r ≡ Ok x → answer_of a k ≡ tide_of r k
  unfolding tide_of
  answered x a h i =
      at_both (λ (y : (Result PhaseParts Refusal)) (z : (Result Constituent Refusal)). y ≡ Ok x → answer_of a k ≡ z) Err Err (λ p. Ok (parts_of p)) (λ p. answer_of (arguments_at p) k) r
      (λ n e. impossible (cc)) (λ p _ e. ap (λ (a : Arguments). answer_of a k) (h p (cc))) (phase_is r ∙ i)

  -- where a refusal is, it is handed on
  refused : (n : Refusal) → phase_answer r ≡ Err n → Err n ≡ tide_of r k
  unfolding tide_of
  refused n i =
      at_both (λ (y : (Result PhaseParts Refusal)) (z : (Result Constituent Refusal)). y ≡ Err n → Err n ≡ z) Err Err (λ p. Ok (parts_of p)) (λ p. answer_of (arguments_at p) k) r
      (λ m e. ap Err (cc)) (λ p _ e. impossible (cc)) (phase_is r ∙ i)

pub arguments_at-requires : goal.arguments_at-requires
arguments_at-requires c =
    let e : c.phase_parts.result ≡ Ok c.in_ok-p.p = search rules in
    answer_together _ _ (sym c.phase_parts.ensures ∙ e)

pub returns-in_err-p : goal.returns-in_err-p
returns-in_err-p c =
    let p = err_from_is_err_and c.from_residual.result c.from_residual.ensures.1 in
    let e : c.phase_parts.result ≡ Err c.in_err-p.field-0.0 = search rules in
    rw (p.1, p.2) (refused _ _ _ (sym c.phase_parts.ensures ∙ e))

pub returns : goal.returns
returns c =
    let e : c.phase_parts.result ≡ Ok c.in_ok-p.p = search rules in
    c.constituent.ensures ∙ answered _ _ _ _ c.arguments_at.ensures (sym c.phase_parts.ensures ∙ e)
