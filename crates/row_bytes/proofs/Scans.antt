-- A test of each index, run by `any` over a range of them, tells whether some index passes. Assumes nothing.
use Prim.Native.Nat.{ℕ, ◌<◌, zero-le}
use mathlib.Core.Path.{◌≡◌, sym, ◌∙◌, ap}
use mathlib.Core.Bool.{Bool, true, false}
use Rattle.std.specs.Bool.{MatchBool}
use Rattle.std.specs.List.{range_with_len, AllWithin, HoldsAt}
use Rattle.std.proofs.lemmas.List.FromFn.{length-range_with_len, get_or-range_with_len}
use native.Mathlib.Omega.{arith}
use lib.ListN.{length, get_or}
use Rattle.rows.specs.Table.{some_below}
use Rattle.rows.proofs.Accepted.{some_at, none_found}

-- a number of the range is its own index
number : (n i : ℕ) → i < n → i ≡ get_or (range_with_len 0 n) i 0
number n i h = omega (arith, get_or-range_with_len 0 n i 0 h)

pub any_below : (f : ℕ → Bool) (n : ℕ) (r : Bool)
    → MatchBool r ((k : ℕ) × (k < length (range_with_len 0 n)) × HoldsAt (λ i. f i ≡ true) (range_with_len 0 n) k) (AllWithin (λ i. f i ≡ false) (range_with_len 0 n) 0 (length (range_with_len 0 n)))
    → r ≡ some_below n f
any_below f n true h =
    let l : h.0 < n = omega (arith, h.1, length-range_with_len 0 n) in
    sym (some_at f n h.0 l (ap f (number n h.0 l) ∙ h.2 0))
any_below f n false h = sym (none_found f n (λ i l. ap f (number n i l) ∙ h i 0 zero-le (omega (arith, l, length-range_with_len 0 n))))
