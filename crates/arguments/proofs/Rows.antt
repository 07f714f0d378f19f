-- The table's rows, whose multipliers are from -2 to 3, and the sum over a row's columns, one after the other.
-- Assumes nothing.
use mathlib.Core.Path.{◌≡◌, refl, ◌∙◌, ap}
use mathlib.Core.Bool.{Bool, true, ◌&&◌}
use mathlib.Core.List.{List, [], ◌∷◌}
use Prim.Native.Nat.{ℕ, zero, suc, ◌+◌, ◌≤◌, ◌<◌}
use native.Mathlib.Numerals.{add-one}
use native.Mathlib.Omega.{arith}
use lib.Dec.{T}
use lib.ListN.{length, get_or, drop, drop_of_length-le}
use lib.Seq.{drop-cons}
use lib.IntN.{ℤ, pos}
use lib.Signed.{le_z, le_z_yes}
use Rattle.algebra.specs.Integers.{+◌, −◌}
use Rattle.algebra.proofs.Tests.{and_split, every, each}
use Rattle.arguments.specs.Table.{multipliers}
use Rattle.arguments.specs.Ours.{column, columns}
use Rattle.arguments.specs.Inner.{Multiplier}

abbrev pub in_range : List ℤ → Bool
in_range [] = true
in_range (k ∷ ks) = le_z (− 2) k && le_z k (+ 3) && in_range ks

rows_in_range : T (every in_range multipliers)
rows_in_range = tt

range_at : (ks : List ℤ) → T (in_range ks) → (j : ℕ) → Multiplier (get_or ks j (pos 0))
range_at [] t j = record { low = le_z_yes tt; high = le_z_yes tt }
range_at (k ∷ ks) t zero =
    let h = and_split (le_z (− 2) k) (le_z k (+ 3)) (and_split (le_z (− 2) k && le_z k (+ 3)) (in_range ks) t).0 in
    record { low = le_z_yes h.0; high = le_z_yes h.1 }
range_at (k ∷ ks) t (suc j) = range_at ks (and_split (le_z (− 2) k && le_z k (+ 3)) (in_range ks) t).1 j

pub row_range : (r : ℕ) → r < 62 → (j : ℕ) → Multiplier (get_or (get_or multipliers r []) j (pos 0))
row_range r h j = range_at (get_or multipliers r []) (each in_range multipliers rows_in_range [] r h) j

-- ---- the sum over the columns from j on

pub columns_from : List ℤ → List ℕ → ℕ → ℕ
columns_from ks xs j = columns (drop j ks) (drop j xs)

pub columns_all : (ks : List ℤ) (xs : List ℕ) → columns_from ks xs 0 ≡ columns ks xs
unfolding columns_from
columns_all ks xs = refl

pub columns_step : (ks : List ℤ) (xs : List ℕ) (j : ℕ) → j < length ks → j < length xs
    → columns_from ks xs j ≡ column (get_or ks j (pos 0)) (get_or xs j 0) + columns_from ks xs (suc j)
unfolding columns_from
columns_step ks xs j h k = rw (drop-cons ks j (pos 0) h, drop-cons xs j 0 k) refl

pub columns_end : (ks : List ℤ) (xs : List ℕ) (j : ℕ) → length ks ≤ j → columns_from ks xs j ≡ 0
unfolding columns_from
columns_end ks xs j h = ap (λ (l : List ℤ). columns l (drop j xs)) (drop_of_length-le ks h)

-- one more column in the sum
pub columns_next : (ks : List ℤ) (xs : List ℕ) (s q w j : ℕ) → length ks ≡ 5 → length xs ≡ 5 → j < 5 → q ≡ column (get_or ks j (pos 0)) (get_or xs j 0)
    → s + columns_from ks xs j ≡ w → s + q + columns_from ks xs (j + 1) ≡ w
columns_next ks xs s q w j hk hx h e i =
    ap (λ (n : ℕ). s + q + columns_from ks xs n) (add-one j) ∙ omega (arith, columns_step ks xs j (omega arith) (omega arith))
