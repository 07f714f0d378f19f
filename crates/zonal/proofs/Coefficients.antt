-- No coefficient of the table has a magnitude above 2^24: one computed test over the table, and what it says at each entry.
-- Assumes nothing.
use mathlib.Core.Bool.{Bool, true, ◌&&◌}
use mathlib.Core.List.{List, [], ◌∷◌}
use Prim.Native.Nat.{ℕ, zero, suc, ◌^◌, ◌≤◌, ◌<◌}
use lib.Dec.{T, leb, leb→le, lit≤}
use lib.IntN.{ℤ, nat_abs}
use Rattle.algebra.proofs.Tests.{and_split, every, each}
use Rattle.algebra.specs.Integers.{+◌}
use lib.ListN.{get_or}
use Rattle.zonal.specs.Coefficients.{coefficients}
use Rattle.zonal.specs.Exact.{row_count, coefficient}

abbrev pub small_row : List ℤ → Bool
small_row [] = true
small_row (c ∷ cs) = leb (nat_abs c) (2 ^ 24) && small_row cs

rows_small : T (every small_row coefficients)
rows_small = tt

small_at : (cs : List ℤ) → T (small_row cs) → (j : ℕ) → nat_abs (get_or cs j (+ 0)) ≤ 2 ^ 24
small_at [] t j = lit≤ tt
small_at (c ∷ cs) t zero = leb→le (nat_abs c) (2 ^ 24) (and_split (leb (nat_abs c) (2 ^ 24)) (small_row cs) t).0
small_at (c ∷ cs) t (suc j) = small_at cs (and_split (leb (nat_abs c) (2 ^ 24)) (small_row cs) t).1 j

pub coefficient_small : (r : ℕ) → r < row_count → (j : ℕ) → nat_abs (coefficient r j) ≤ 2 ^ 24
coefficient_small r h j = small_at (get_or coefficients r []) (each small_row coefficients rows_small [] r h) j
