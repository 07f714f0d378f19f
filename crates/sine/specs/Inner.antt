-- What only the contracts of the code's own functions cite.
use Rattle.std.specs.Prelude.{◌≡◌, ℕ, ◌-◌, ◌*◌, ◌^◌, ◌≤◌, ◌<◌}

-- r is the angle a, in units of 2^-41 turn, reduced to a quarter turn: by the quarter that a is in
pub data Reduced (a r : ℕ) : Type 0 where
  first : a ≤ 2 ^ 39 → r ≡ a → Reduced a r
  second : 2 ^ 39 < a → a ≤ 2 ^ 40 → r ≡ 2 ^ 40 - a → Reduced a r
  third : 2 ^ 40 < a → a ≤ 3 * 2 ^ 39 → r ≡ a - 2 ^ 40 → Reduced a r
  fourth : 3 * 2 ^ 39 < a → a ≤ 2 ^ 41 → r ≡ 2 ^ 41 - a → Reduced a r
