-- The first refusal of the definitions and the first by its figures are one: case by case, by induction on the list. Assumes nothing.
use mathlib.Core.Path.{◌≡◌, refl}
use mathlib.Core.Bool.{Bool, true, false, cond}
use mathlib.Core.List.{List, [], ◌∷◌, ◌++◌}
use Rattle.instants.specs.Refusals as named
use Rattle.instants.proofs.FirstRefusal.{NoneApplies}
use Rattle.instants.specs.Refusals.{number}
use Rattle.promises.specs.Figures.{Case, case, first_refusal}

-- a case by its figures
abbrev pub figure : named.Case → Case
figure c = case (number c.refusal) c.applies

abbrev pub figures : List named.Case → List Case
figures [] = []
figures (c ∷ cs) = figure c ∷ figures cs

-- lists that agree where no case before them applies agree behind those cases, which may be said by figures
pub in_figures : (cs ds : List named.Case) (es : List Case) → (NoneApplies cs → named.first_refusal ds ≡ first_refusal es)
    → named.first_refusal (cs ++ ds) ≡ first_refusal (figures cs ++ es)
in_figures [] ds es h = h tt
in_figures (c ∷ cs) ds es h = by c.applies refl (in_figures cs ds es)
  where
    by : (b : Bool) → c.applies ≡ b → ((NoneApplies cs → named.first_refusal ds ≡ first_refusal es) → named.first_refusal (cs ++ ds) ≡ first_refusal (figures cs ++ es))
        → cond b (number c.refusal) (named.first_refusal (cs ++ ds)) ≡ cond b (number c.refusal) (first_refusal (figures cs ++ es))
    by true p f = refl
    by false p f = f (λ n. h (p, n))
