-- What only the contracts of the code's own functions cite.
use Rattle.std.specs.Prelude.{List, [], ℕ, ◌+◌, ◌-◌, ◌^◌, ◌≤◌, ◌<◌, ℤ, ◌+ℤ◌, ◌*ℤ◌, nat_abs, get_or}
use Rattle.algebra.specs.Integers.{+◌}
use Rattle.zonal.specs.Coefficients.{coefficients}
use Rattle.zonal.specs.declared.Sums.{Sums}
use Rattle.zonal.specs.Exact.{ut1_sum, lod_sum, rate_sum}
use Rattle.zonal.specs.declared.Corrections.{Corrections}
use Rattle.zonal.specs.Ours.{row_sine, row_cosine, corrections, our_ut1, our_lod, our_rate}

-- of a row of the table: its coefficient in the column j times p, and that in the next times q
abbrev pub row_term : List ℤ → ℕ → ℤ → ℤ → ℤ
row_term cs j p q = get_or cs j (+ 0) *ℤ p +ℤ get_or cs (j + 1) (+ 0) *ℤ q

-- that of the row r
abbrev pub term : ℕ → ℕ → ℤ → ℤ → ℤ
term r = row_term (get_or coefficients r [])

-- the most that a sum is at any row, in magnitude
abbrev pub sum_most : ℕ
sum_most = 2 ^ 63 - 2 ^ 58

-- the most that a number's factor times its sum is, in magnitude
abbrev pub product_most : ℕ
product_most = 2 ^ 62 - 2 ^ 31

-- what adding a row asks, so that nothing passes 64 bits: its coefficients, a column, the sum before, and the two that its coefficients go with
pub record RowBounds (cs : List ℤ) (j : ℕ) (v p q : ℤ) : Type 0 where
  pub coefficients : (i : ℕ) → nat_abs (get_or cs i (+ 0)) ≤ 2 ^ 24
  pub column : j < 5
  pub sum : nat_abs v ≤ sum_most
  pub first : nat_abs p < 2 ^ 32
  pub second : nat_abs q < 2 ^ 32

-- the three sums at the moment x
unfoldable pub sums_at : ℕ → Sums
sums_at x = record { ut1 = ut1_sum (row_sine x) (row_cosine x); lod = lod_sum (row_sine x) (row_cosine x); rate = rate_sum (row_sine x) (row_cosine x) }

-- the corrections at the moment x
unfoldable pub corrections_then : ℕ → Corrections
corrections_then x = corrections (our_ut1 x) (our_lod x) (our_rate x)
