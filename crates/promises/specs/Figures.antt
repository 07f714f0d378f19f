-- Refusals by their figures, apart from the names and the numbers of the definitions: of several conditions, each with its number, the first that applies.
use Rattle.std.specs.Prelude.{ℕ, Bool, cond, List, [], ◌∷◌}

-- a refusal number, and whether its condition applies
pub record Case : Type 0 where
  pub number : ℕ
  pub applies : Bool

-- refusal n, where b holds
abbrev pub case : ℕ → Bool → Case
case n b = record { number = n; applies = b }

-- the number of the first that applies, or 0
abbrev pub first_refusal : List Case → ℕ
first_refusal [] = 0
first_refusal (c ∷ cs) = cond c.applies c.number (first_refusal cs)
