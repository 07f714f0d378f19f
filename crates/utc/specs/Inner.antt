-- What only the contracts of the code's own functions cite.
use Rattle.std.specs.Prelude.{ℕ, suc, ◌+◌, ◌≤◌, ◌<◌, ◌≡◌, List, length, get_or, Result, Ok, Err}
use Rattle.instants.specs.Refusals.{refused_or}
use Rattle.instants.specs.Limits.{days_covered}
use Rattle.instants.specs.Moments.{moment}
use Rattle.utc.specs.Readings.{reading_index, reading_micros, reading_cases, cover_cases}
use Rattle.utc.specs.Conversions.{moment_cases, reading_on, tt_of}
use Rattle.instants.specs.declared.Instant.{Instant}
use Rattle.utc.specs.declared.Reading.{Reading}
use Rattle.utc.specs.declared.UtcTime.{UtcTime}
use Rattle.utc.specs.PhaseInstants.{PhaseInstant}
use Rattle.utc.specs.declared.PhaseParts.{PhaseParts}
use Rattle.instants.specs.declared.refusal.Refusal.{Refusal}

-- the k-th of the days t has come by the day n, and the next has not; where they rise, k of them have come
pub record LastBegun (t : List ℕ) (n k : ℕ) : Type 0 where
  pub most : k ≤ length t
  pub low : (j : ℕ) → suc j ≡ k → get_or t j 0 ≤ n
  pub high : k < length t → n < get_or t k 0

-- the time u of the UTC day n
abbrev pub utc_time : ℕ → ℕ → UtcTime
utc_time n u = record { index = n; micros = u }

-- that time, or the refusal of a day that the list does not cover
unfoldable pub covered_time : ℕ → ℕ → Result UtcTime Refusal
covered_time n u = refused_or Err (cover_cases n) (Ok (utc_time n u))

-- an accepted reading's time, or its refusal
unfoldable pub reading_acceptance : Reading → Result UtcTime Refusal
reading_acceptance r = refused_or Err (reading_cases r) (Ok (utc_time (reading_index r) (reading_micros r)))

-- the instant t and the time of the reading r
abbrev pub parts : Instant → Reading → PhaseParts
parts t r = record { tt = t; utc = utc_time (reading_index r) (reading_micros r) }

-- the parts of an instant for phases, as the code has them
abbrev pub parts_of : PhaseInstant → PhaseParts
parts_of p = parts p.tt p.utc

-- parts that belong together: those of an instant for phases
pub record Together (x : PhaseParts) : Type 0 where
  pub at : PhaseInstant
  pub are : x ≡ parts_of at

-- the parts of a reading's instant for phases, or its refusal, by the answer of the conversion
abbrev pub phase_by : Reading → Result Instant Refusal → Result PhaseParts Refusal
phase_by r (Ok t) = Ok (parts t r)
phase_by r (Err n) = Err n

unfoldable pub phase_answer : Reading → Result PhaseParts Refusal
phase_answer r = phase_by r (tt_of r)

-- x is a moment of the TT day of index i
pub record OnDay (i x : ℕ) : Type 0 where
  pub covered : i < days_covered
  pub from : moment i 0 ≤ x
  pub to : x < moment (i + 1) 0

-- the reading at a moment of the TT day i, or the refusal of one that the list does not cover
unfoldable pub reading_answer : ℕ → ℕ → Result Reading Refusal
reading_answer i x = refused_or Err (moment_cases x) (Ok (reading_on i x))
