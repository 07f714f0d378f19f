-- The mark of a day number, from the index of its day: the day number is the index less the offset, which is 1 modulo 8, whether that is negative or
-- not. Assumes nothing.
use Prim.Native.Nat.{ℕ, suc, ◌+◌, ◌-◌, ◌%◌, ◌<◌, ◌≤◌}
use mathlib.Core.Path.{◌≡◌, refl, ap, ◌∙◌}
use mathlib.Core.Bool.{Bool, true, false, cond}
use native.Mathlib.Omega.{arith}
use lib.Dec.{ltb}
use lib.IntN.{ℤ, pos, negsuc, ◌-ℤ◌}
use borrow.Author.Tests.{ltb-true, ltb-false}
use Rattle.instants.specs.Limits.{index_offset}
use Rattle.clock.specs.Words.{mark}

pub mark_index : (d : ℤ) (i : ℕ) → d ≡ pos i -ℤ pos index_offset → mark d ≡ (i + 7) % 8
mark_index d i e = ap mark e ∙ by (ltb i index_offset) refl
  where
    by : (t : Bool) → ltb i index_offset ≡ t → mark (cond t (negsuc (index_offset - suc i)) (pos (i - index_offset))) ≡ (i + 7) % 8
    by true p = let h : i < index_offset = ltb-true i index_offset p in omega arith
    by false p = let h : index_offset ≤ i = ltb-false i index_offset p in omega arith
