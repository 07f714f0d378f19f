-- What the code asks of its numbers so that nothing passes 64 bits.
use Rattle.std.specs.Prelude.{◌^◌, ◌<◌, ℤ, ◌≤ℤ◌}
use Rattle.algebra.specs.Integers.{+◌, −◌}
use Rattle.arguments.specs.declared.half.Half.{Half}

-- the constants of a half, so that no product passes 64 bits
pub record HalfBounds (k : Half) : Type 0 where
  pub start : k.a0 < 2 ^ 54
  pub second : k.k2 < 2 ^ 36
  pub third : k.k3 < 2 ^ 27
  pub fourth : k.k4 < 2 ^ 19

-- a multiplier of the table
pub record Multiplier (k : ℤ) : Type 0 where
  pub low : − 2 ≤ℤ k
  pub high : k ≤ℤ + 3
