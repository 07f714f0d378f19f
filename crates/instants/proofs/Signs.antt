-- Day numbers as integers, and their indices as natural numbers: a day number that passes both tests of the range is not negative, so it is its
-- index less the offset, and in the code's 64 bits the offset can be added and taken away. Assumes nothing.
use Prim.Native.Nat.{ℕ, ◌-◌, ◌+◌, ◌^◌, ◌<◌, ◌≤◌, suc}
use mathlib.Core.Path.{◌≡◌, refl, ap, ◌∙◌}
use mathlib.Core.Bool.{Bool, true, false, cond, true≢false}
use native.Mathlib.Omega.{arith}
use lib.Signed.{lt_z}
use borrow.Author.Tests.{ltb-false, le-ltb}
use lib.Dec.{ltb}
use lib.IntN.{ℤ, pos, negsuc, sub_ℕ, ◌+ℤ◌, ◌-ℤ◌, -ℤ-+ℤ_cancel}
use mir.Syntax.{w64}
use mir.Val.{SFits, to_z, of_z}
use mir.Facts.{to_z-of_z}
use Rattle.instants.specs.Limits.{first_day, last_day, index_offset}

-- a difference of small numbers fits, whichever is the greater
by : (t : Bool) (a b : ℕ) → a < 2 ^ 62 → b < 2 ^ 62 → SFits w64 (cond t (negsuc (b - suc a)) (pos (a - b)))
by true a b h k = record { sfits = omega arith }
by false a b h k = record { sfits = omega arith }

pub sub_fits : (a b : ℕ) → a < 2 ^ 62 → b < 2 ^ 62 → SFits w64 (sub_ℕ a b)
sub_fits a b = by (ltb a b) a b

-- a day number with the offset is its index
pub index_up : (d : ℤ) (i : ℕ) → d ≡ pos i -ℤ pos index_offset → d +ℤ pos index_offset ≡ pos i
index_up d i e = ap (λ (x : ℤ). x +ℤ pos index_offset) e ∙ -ℤ-+ℤ_cancel (pos i) (pos index_offset)

-- from the offset on, the day number of an index is a natural number
pub day_natural : (i : ℕ) → index_offset ≤ i → pos i -ℤ pos index_offset ≡ pos (i - index_offset)
day_natural i h = simp (le-ltb i index_offset h)

-- the indices of the first and the last day
abbrev pub first_index : ℕ
first_index = 15020 + index_offset

abbrev pub last_index : ℕ
last_index = 88433 + index_offset

-- A day number in range, by its index.
pub record DayInRange (z : ℤ) : Type 0 where
  pub it : ℕ
  pub low : first_index ≤ it
  pub high : it ≤ last_index
  pub is : z ≡ pos it -ℤ pos index_offset
  pub up : z +ℤ pos index_offset ≡ pos it

pub day_in_range : (z : ℤ) → lt_z z first_day ≡ false → lt_z last_day z ≡ false → DayInRange z
day_in_range (pos n) p q =
    let l : 15020 ≤ n = ltb-false n 15020 p in
    let h : n ≤ 88433 = ltb-false 88433 n q in
    let e : n ≡ n + index_offset - index_offset = omega arith in
    record { it = n + index_offset; low = omega arith; high = omega arith; is = simp (le-ltb (n + index_offset) index_offset (omega arith)) (ap pos e); up = refl }
day_in_range (negsuc n) p q = absurd (true≢false p)

-- the sum of the code, which holds z as its bits
module _ (z : ℤ) (f : SFits w64 z) (b : DayInRange z) where
  pub biased : to_z w64 (of_z w64 z) +ℤ pos index_offset ≡ pos b.it
  biased = rw (to_z-of_z f) b.up

  biased_fits : SFits w64 (pos b.it)
  biased_fits = record { sfits = omega (arith, b.high) }

  pub biased_sum : SFits w64 (to_z w64 (of_z w64 z) +ℤ pos index_offset)
  biased_sum = rw biased biased_fits

  pub biased_read : to_z w64 (of_z w64 (to_z w64 (of_z w64 z) +ℤ pos index_offset)) ≡ pos b.it
  biased_read = rw biased (to_z-of_z biased_fits)
