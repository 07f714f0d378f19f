-- An instant: a day number (MJD) with microseconds since 0 h, both of Terrestrial Time. Which instants are accepted, and the
-- instant some microseconds later.
use Rattle.std.specs.Prelude.{ℕ, ◌+◌, ◌/◌, ◌%◌, ◌≡◌, Bool, ◌||◌, List, [], ◌∷◌, leb, ℤ, pos, ◌+ℤ◌, ◌-ℤ◌, nat_abs, Result, Ok, Err}
use Rattle.std.specs.Int.Signed.{lt_z}
use Rattle.instants.specs.Limits.{first_day, last_day, day_micros, index_offset}
use Rattle.instants.specs.Refusals.{Case, case, refused_or}
use Rattle.instants.specs.declared.Instant.{Instant}
use Rattle.instants.specs.declared.refusal.Refusal.{Refusal}
use Rattle.instants.specs.declared.refusal.Refusal.TheVariants.{Day, Micros}

-- the instant of a day number and its microseconds
abbrev pub instant : ℤ → ℕ → Instant
instant d m = record { day = d; micros = m }

-- a day number outside the range
unfoldable pub outside : ℤ → Bool
outside d = lt_z d first_day || lt_z last_day d

-- the index of a day number: the days since 1600-01-01
unfoldable pub day_index : ℤ → ℕ
day_index d = nat_abs (d +ℤ pos index_offset)

-- the day number of the index n
unfoldable pub day_at_index : ℕ → ℤ
day_at_index n = pos n -ℤ pos index_offset

-- the refusals of an instant
abbrev pub instant_cases : ℤ → ℕ → List Case
instant_cases d m = case Day (outside d) ∷ case Micros (leb day_micros m) ∷ []

-- whether an instant is accepted: a refusal, or the index of its day
unfoldable pub acceptance : ℤ → ℕ → Result ℕ Refusal
acceptance d m = refused_or Err (instant_cases d m) (Ok (day_index d))

-- an accepted instant: neither case applies
abbrev pub IsAccepted : ℤ → ℕ → Type 0
IsAccepted d m = acceptance d m ≡ Ok (day_index d)

-- the instant t microseconds after the instant d, m: its day number, and the microseconds of that day
abbrev pub later_day : ℤ → ℕ → ℕ → ℤ
later_day d m t = d +ℤ pos ((m + t) / day_micros)

abbrev pub later_micros : ℕ → ℕ → ℕ
later_micros m t = (m + t) % day_micros
