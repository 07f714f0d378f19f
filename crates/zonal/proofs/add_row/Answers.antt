-- A coefficient is at most 2^24 and a sine below 2^32, so a product is at most 2^56 and the two together 2^57; with the sum before, at most
-- `sum_most`, that is below 2^63. So each is read back from its bits as it was.
use Rattle.std.proofs.Common.{ℕ, ◌+◌, ◌*◌, ◌^◌, ◌≤◌, ◌<◌, ℤ, ◌+ℤ◌, ◌*ℤ◌, nat_abs, List, get_or}
use Rattle.std.proofs.Math.Nat.{le_of_lt}
use Rattle.std.proofs.Math.Dec.{lit≤}
use Rattle.algebra.specs.Integers.{+◌}
use Rattle.zonal.specs.Inner.{row_term, sum_most, RowBounds}
use Rattle.algebra.proofs.Bits.{read_back, InBits, bits_fit, bits_back, bits_given, bits_times, bits_plus}
use Rattle.zonal.proofs.add_row.Goals as goal

-- the bound of a product
abbrev product_bound : ℕ
product_bound = 2 ^ 24 * 2 ^ 32

product : (k p : ℤ) → nat_abs k ≤ 2 ^ 24 → nat_abs p < 2 ^ 32 → InBits (read_back k *ℤ read_back p) (k *ℤ p) product_bound
product k p h l = bits_times (bits_given k (2 ^ 24) h (lit≤ tt)) (bits_given p (2 ^ 32) (le_of_lt l) (lit≤ tt)) (lit≤ tt)

module _ {cs : List ℤ} {j : ℕ} {v p q : ℤ} (b : RowBounds cs j v p q) where
  left : InBits (read_back (get_or cs j (+ 0)) *ℤ read_back p) (get_or cs j (+ 0) *ℤ p) product_bound
  left = product (get_or cs j (+ 0)) p (b.coefficients j) b.first

  right : InBits (read_back (get_or cs (j + 1) (+ 0)) *ℤ read_back q) (get_or cs (j + 1) (+ 0) *ℤ q) product_bound
  right = product (get_or cs (j + 1) (+ 0)) q (b.coefficients (j + 1)) b.second

  abbrev pair : ℤ
  pair = read_back (read_back (get_or cs j (+ 0)) *ℤ read_back p) +ℤ read_back (read_back (get_or cs (j + 1) (+ 0)) *ℤ read_back q)

  both : InBits pair (row_term cs j p q) (product_bound + product_bound)
  both = bits_plus (bits_back left) (bits_back right) (lit≤ tt)

  whole : InBits (read_back v +ℤ read_back pair) (v +ℤ row_term cs j p q) (sum_most + (product_bound + product_bound))
  whole = bits_plus (bits_given v sum_most b.sum (lit≤ tt)) (bits_back both) (lit≤ tt)

pub overflow_mul-result : goal.overflow_mul-result
overflow_mul-result c = bits_fit (left c.requires)

pub overflow_mul-result-2 : goal.overflow_mul-result-2
overflow_mul-result-2 c = bits_fit (right c.requires)

pub overflow_add-result-2 : goal.overflow_add-result-2
overflow_add-result-2 c = bits_fit (both c.requires)

pub overflow_add-result-3 : goal.overflow_add-result-3
overflow_add-result-3 c = bits_fit (whole c.requires)

pub returns : goal.returns
returns c = (bits_back (whole c.requires)).is
