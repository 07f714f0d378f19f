-- Bounds that stood by themselves and that no proof cites today: of the arguments, of the upper half of a product, and of an angle reduced. Assumes nothing.
use Prim.Native.Nat.{ℕ, zero, suc, ◌+◌, ◌*◌, ◌-◌, ◌/◌, ◌%◌, ◌^◌, ◌≤◌, ◌<◌}
use native.Mathlib.Nat as Nat
use native.Mathlib.Nat.{le_trans, mul-le-mul}
use native.Mathlib.Decide.{dec_le}
use native.Mathlib.Omega.{arith}
use mathlib.Core.Path.{◌≡◌}
use lib.Dec.{lit≤}
use lib.ListN.{get_or}
use Rattle.arguments.specs.declared.half.Half.{Half}
use Rattle.instants.specs.Moments.{latest}
use Rattle.arguments.specs.Inner.{HalfBounds}
use Rattle.arguments.specs.Ours.{high, per_century, term₃, term₂, term₁, half_at, up₁, down₁, up₂, down₂, up₃, down₃, up₄, down₄, up₅, down₅, argument, our_arguments}
use Rattle.sine.specs.Inner.{Reduced, first, second, third, fourth}

-- ---- the arguments

-- nine centuries and a little, in units of 2^-24 century
abbrev pub centuries_most : ℕ
centuries_most = 151_200_000

pub centuries_le : (x : ℕ) → x ≤ latest → high x per_century ≤ centuries_most
centuries_le x h = bound (Nat.mul-le-mul_right per_century h)
  where
    bound : x * per_century ≤ latest * per_century → x * per_century / 2 ^ 64 ≤ centuries_most
    bound k = omega arith

-- the upper half of a product with a number of 64 bits is at most the other factor
pub high_le : (x g : ℕ) → g < 2 ^ 64 → high x g ≤ x
high_le x g h = bound (Nat.mul-le-mul_left x (Nat.le_of_lt h))
  where
    bound : x * g ≤ x * 2 ^ 64 → x * g / 2 ^ 64 ≤ x
    bound k = omega arith

at_most : (b : ℕ) {s h : ℕ} → s ≤ centuries_most → h ≤ b → s * h ≤ centuries_most * b
at_most b h k = mul-le-mul h k

-- the nested sums of a half, from the inside
abbrev most₃ : ℕ
most₃ = 140_000_000

abbrev most₂ : ℕ
most₂ = 70_000_000_000

abbrev most₁ : ℕ
most₁ = 10_000_000_000

-- its products
pub record Sizes (k : Half) (s : ℕ) : Type 0 where
  pub fourth : s * k.k4 ≤ centuries_most * 2 ^ 19
  pub third : s * term₃ k s ≤ centuries_most * most₃
  pub second : s * term₂ k s ≤ centuries_most * most₂
  pub first : s * term₁ k s ≤ centuries_most * most₁

pub sizes : (k : Half) {x s : ℕ} → x ≤ latest → s ≡ high x per_century → HalfBounds k → Sizes k s
sizes k {x} {s} time centuries w = record { fourth = p₄; third = p₃; second = p₂; first = p₁ }
  where
    small : s ≤ centuries_most
    small = le_trans (Nat.le_of_eq centuries) (centuries_le x time)

    p₄ : s * k.k4 ≤ centuries_most * 2 ^ 19
    p₄ = at_most (2 ^ 19) small (omega (arith, w.fourth))

    p₃ : s * term₃ k s ≤ centuries_most * most₃
    p₃ = at_most most₃ small (omega (arith, p₄, w.third))

    p₂ : s * term₂ k s ≤ centuries_most * most₂
    p₂ = at_most most₂ small (omega (arith, p₃, w.second))

    p₁ : s * term₁ k s ≤ centuries_most * most₁
    p₁ = at_most most₁ small (omega (arith, p₂))

-- every argument is below a turn
pub argument_less : (up down : Half) (x : ℕ) → argument up down x < 2 ^ 41
argument_less up down x = Nat.mod-lt (half_at up x + (2 ^ 41 - half_at down x % 2 ^ 41)) (lit≤ tt)

pub arguments_less : (x j : ℕ) → get_or (our_arguments x) j 0 < 2 ^ 41
arguments_less x zero = argument_less up₁ down₁ x
arguments_less x (suc zero) = argument_less up₂ down₂ x
arguments_less x (suc (suc zero)) = argument_less up₃ down₃ x
arguments_less x (suc (suc (suc zero))) = argument_less up₄ down₄ x
arguments_less x (suc (suc (suc (suc zero)))) = argument_less up₅ down₅ x
arguments_less x (suc (suc (suc (suc (suc j))))) = lit≤ tt

-- ---- an angle reduced: what is above a whole number of half turns, or what is left of the half turn

pub reduced_low : (a : ℕ) → a < 2 ^ 41 → a % 2 ^ 40 ≤ 2 ^ 39 → Reduced a (a % 2 ^ 40)
reduced_low a l h = by (dec_le (2 ^ 40) a) (dec_le a (2 ^ 40))
  where
    by : Dec (2 ^ 40 ≤ a) → Dec (a ≤ 2 ^ 40) → Reduced a (a % 2 ^ 40)
    by (no p) q = first (omega (arith, p)) (omega (arith, p))
    by (yes p) (yes q) = second (omega arith) q (omega arith)
    by (yes p) (no q) = third (omega (arith, q)) (omega arith) (omega (arith, q))

pub reduced_high : (a : ℕ) → a < 2 ^ 41 → 2 ^ 39 < a % 2 ^ 40 → Reduced a (2 ^ 40 - a % 2 ^ 40)
reduced_high a l h = by (dec_le (2 ^ 40) a)
  where
    by : Dec (2 ^ 40 ≤ a) → Reduced a (2 ^ 40 - a % 2 ^ 40)
    by (no p) = second (omega (arith, p)) (omega (arith, p)) (omega (arith, p))
    by (yes p) = fourth (omega arith) (omega arith) (omega arith)
