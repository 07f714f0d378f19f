-- How near the exact sine and cosine ours are.
use Rattle.std.specs.Prelude.{ℕ, ◌*◌, ◌^◌, ◌<◌, pos, ◌*ℤ◌}
use Rattle.algebra.specs.Near.{Near}
use Rattle.sine.specs.Exact.{sine_den, exact_sine, exact_cosine}
use Rattle.sine.specs.Ours.{our_sine, our_cosine}

-- the distance that is promised, in units of 2^-31: that of every caller is worked out from it
abbrev pub sine_distance : ℕ
sine_distance = 20

-- At the angle b, in units of 2^-41 turn, our sine and our cosine are within `sine_distance` of the exact ones.
pub record SineWithin (b : ℕ) : Type 0 where
  pub positive : 0 < sine_den (2 ^ 41)
  pub sine : Near (our_sine b *ℤ pos (sine_den (2 ^ 41))) (exact_sine (2 ^ 41) b *ℤ pos (2 ^ 31)) (sine_distance * sine_den (2 ^ 41))
  pub cosine : Near (our_cosine b *ℤ pos (sine_den (2 ^ 41))) (exact_cosine (2 ^ 41) b *ℤ pos (2 ^ 31)) (sine_distance * sine_den (2 ^ 41))
