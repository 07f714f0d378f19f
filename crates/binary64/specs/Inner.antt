-- What the contracts of inner functions cite.
use Rattle.std.specs.Prelude.{ℕ, ◌^◌, Bool, Float}
use Rattle.std.specs.Float.Ieee.Exact.{HasValue}

-- x is finite, has the sign s, and is n units of 2^-1074 in size
abbrev pub IsUnits : Float → Bool → ℕ → Type 0
IsUnits x s n = HasValue x s n (2 ^ 1074)
