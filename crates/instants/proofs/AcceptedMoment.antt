-- A service that asks for the moment of an instant hands its refusals on, and otherwise answers at that moment. Assumes nothing.
use Prim.Native.Nat.{ℕ}
use mathlib.Core.Path.{◌≡◌, sym}
use lib.IntN.{ℤ}
use Rattle.std.specs.Prelude.{Result, Ok, Err}
use Rattle.instants.specs.declared.refusal.Refusal.{Refusal}
use Rattle.instants.specs.Refusals.{refused_or}
use Rattle.instants.specs.Instants.{instant_cases}
use Rattle.instants.specs.Moments.{moment_of}
use Rattle.instants.specs.Inner.{moment_answer}
use Rattle.instants.proofs.Impossible.{impossible}
use Rattle.instants.proofs.FirstRefusal.{none_answered, answered_none, refused_alike}

-- the instant has the moment x
pub moment_answered : (d : ℤ) (m x : ℕ) → moment_answer d m ≡ Ok x → moment_of d m ≡ x
unfolding moment_answer
moment_answered d m x e =
    let f : ◌≡◌ {A = Result ℕ Refusal} (Ok (moment_of d m)) (Ok x) = (answered_none Err (instant_cases d m) (Ok (moment_of d m)) (Ok x) (λ n p. impossible (cc)) e).1 in
    cc

module _ {A : Type 0} (refuse : Refusal → A) (answer : A) (d : ℤ) (m : ℕ) where
  -- where the instant is refused
  pub refused_moment : {n : Refusal} → moment_answer d m ≡ Err n → refuse n ≡ refused_or refuse (instant_cases d m) answer
  unfolding moment_answer
  refused_moment {n} e = sym (refused_alike Err refuse (instant_cases d m) (Ok (moment_of d m)) answer n (λ k p. cc) (λ p. impossible (cc)) e)

  -- and where it has a moment
  pub answered_moment : {x : ℕ} → moment_answer d m ≡ Ok x → answer ≡ refused_or refuse (instant_cases d m) answer
  unfolding moment_answer
  answered_moment {x} e =
      sym (none_answered refuse (instant_cases d m) answer (answered_none Err (instant_cases d m) (Ok (moment_of d m)) (Ok x) (λ n p. impossible (cc)) e).0)
