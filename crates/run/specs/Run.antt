-- Service (g): a run of records at equal steps from a start, each with the corrections of its own instant.
use Rattle.std.specs.Prelude.{ℕ, zero, suc, ◌-◌, ◌*◌, Bool, ◌||◌, List, [], ◌∷◌, ◌++◌, ltb, ℤ, length}
use Rattle.std.specs.Int.Signed.{lt_z}
use Rattle.bigendian.specs.Buffers.{at_front}
use Rattle.instants.specs.Limits.{last_day, day_micros}
use Rattle.instants.specs.Refusals.{Case, case, refused_or, first_refusal}
use Rattle.instants.specs.Instants.{instant_cases, later_day, later_micros}
use Rattle.clock.specs.Words.{words, time_word}
use Rattle.record.specs.Format.{record_length, record_bytes}
use Rattle.zonal.specs.Ours.{zonal_of, ut1_of, lod_of, rate_of}
use Rattle.instants.specs.declared.refusal.Refusal.TheVariants.{Day, BufferShort, RunCount, RunStep}

-- the most records of a run
abbrev pub most_records : ℕ
most_records = 96

-- a count outside 1..96
abbrev pub bad_count : ℕ → Bool
bad_count count = ltb count 1 || ltb most_records count

-- a step outside 1 microsecond to a day
abbrev pub bad_step : ℕ → Bool
bad_step step = ltb step 1 || ltb day_micros step

-- the refusals behind those of the start: a last instant past the last day, count - 1 steps after the start, and a buffer of n bytes
abbrev pub end_cases : ℤ → ℕ → (count step n : ℕ) → List Case
end_cases d m count step n = case Day (lt_z last_day (later_day d m ((count - 1) * step))) ∷ case BufferShort (ltb n (record_length * count)) ∷ []

-- the refusals of a run from the instant d, m into a buffer of n bytes: of its count, its step and its start, and then those
abbrev pub run_cases : ℤ → ℕ → (count step n : ℕ) → List Case
run_cases d m count step n = case RunCount (bad_count count) ∷ case RunStep (bad_step step) ∷ instant_cases d m ++ end_cases d m count step n

-- the first refusal of a run, or 0
unfoldable pub run_refusal : ℤ → ℕ → (count step n : ℕ) → ℕ
run_refusal d m count step n = first_refusal (run_cases d m count step n)

-- the record of the instant d, m: its clock words, and the numbers of its corrections
unfoldable pub record_at : ℤ → ℕ → List ℕ
record_at d m = record_bytes (words d (time_word d m)) (ut1_of (zonal_of d m)) (lod_of (zonal_of d m)) (rate_of (zonal_of d m))

-- the first k records of a run, one behind the other
unfoldable pub run_bytes : ℤ → ℕ → (step k : ℕ) → List ℕ
run_bytes d m step zero = []
run_bytes d m step (suc k) = run_bytes d m step k ++ record_at (later_day d m (k * step)) (later_micros m (k * step))

-- the buffer afterwards: as it was on a refusal, else with the records at its front
unfoldable pub run_written : ℤ → ℕ → (count step : ℕ) → List ℕ → List ℕ
run_written d m count step old = refused_or (λ _. old) (run_cases d m count step (length old)) (at_front (run_bytes d m step count) old)
