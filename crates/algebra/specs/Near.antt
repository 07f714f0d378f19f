-- A distance of two whole numbers.
use Rattle.std.specs.Prelude.{ℕ, ◌≤◌, ℤ, ◌-ℤ◌, nat_abs}

-- x and y are at most e apart
pub record Near (x y : ℤ) (e : ℕ) : Type 0 where
  pub by : nat_abs (x -ℤ y) ≤ e
