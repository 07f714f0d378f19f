-- What only the contracts of the code's own functions cite, here, in calendar and in run.
use Rattle.std.specs.Prelude.{ℕ, ◌^◌, ◌<◌, cond, ℤ, Option, Some, None, Result, Ok, Err}
use Rattle.instants.specs.Refusals.{refused_or}
use Rattle.instants.specs.Moments.{moment_of}
use Rattle.instants.specs.declared.refusal.Refusal.{Refusal}
use Rattle.instants.specs.Instants.{instant, instant_cases, outside, day_index, IsAccepted, later_day, later_micros}
use Rattle.instants.specs.declared.Instant.{Instant}

-- indices below this, far more than the range has, are turned into dates and day numbers
abbrev pub index_limit : ℕ
index_limit = 1_000_000

-- a day number's index, or that it has none in range
unfoldable pub index_answer : ℤ → Option ℕ
index_answer z = cond (outside z) None (Some (day_index z))

-- the instant t microseconds after the instant d, m
abbrev pub later_instant : ℤ → ℕ → ℕ → Instant
later_instant d m t = instant (later_day d m t) (later_micros m t)

-- the instant d, m is accepted, and t microseconds are few enough that the sums fit
pub record LaterBounds (d : ℤ) (m t : ℕ) : Type 0 where
  pub accepted : IsAccepted d m
  pub few : t < 2 ^ 62

-- the moment of an accepted instant, or its refusal
unfoldable pub moment_answer : ℤ → ℕ → Result ℕ Refusal
moment_answer d m = refused_or Err (instant_cases d m) (Ok (moment_of d m))
