-- Tests that are computed, and what they say.
-- Assumes nothing.
use mathlib.Core.Bool.{Bool, true, false, not, cond, ◌&&◌}
use mathlib.Core.List.{List, [], ◌∷◌}
use Prim.Native.Nat.{ℕ, zero, suc, ◌<◌}
use native.Mathlib.Nat as N
use lib.Dec.{T}
use lib.ListN.{length, get_or}

-- both tests pass
pub and_split : (a b : Bool) → T (a && b) → T a × T b
and_split true b t = (tt, t)
and_split false b t = absurd t

-- by the two cases of a test
pub by_test : {P : Type 0} (b : Bool) → (T b → P) → (T (not b) → P) → P
by_test true f g = f tt
by_test false f g = g tt

-- a choice by a test
pub cond_case : {A : Type 0} (b : Bool) {x y : A} (P : A → Type 0) → (T b → P x) → (T (not b) → P y) → P (cond b x y)
cond_case true P f g = f tt
cond_case false P f g = g tt

-- a test that passes at every entry of a table
abbrev pub every : {A : Type 0} → (A → Bool) → List A → Bool
every f [] = true
every f (x ∷ xs) = f x && every f xs

pub each : {A : Type 0} (f : A → Bool) (xs : List A) → T (every f xs) → (d : A) (i : ℕ) → i < length xs → T (f (get_or xs i d))
each f [] t d i h = absurd (N.not-suc-le-zero h)
each f (x ∷ xs) t d zero h = (and_split (f x) (every f xs) t).0
each f (x ∷ xs) t d (suc i) h = each f xs (and_split (f x) (every f xs) t).1 d i (N.le_of_suc-le-suc h)
