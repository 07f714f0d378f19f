-- The words of the promises on the program's answer (proofs/Promises.antt).
use Rattle.std.specs.Prelude.{ℕ, ◌-◌, ◌*◌, List, [], ◌∷◌, ◌++◌}
use Rattle.std.specs.Int.Signed.{lt_z}
use Rattle.instants.specs.Limits.{last_day}
use Rattle.instants.specs.Refusals.{Case, case}
use Rattle.instants.specs.Instants.{later_day}
use Rattle.calendar.specs.Dates.{date_cases}
use Rattle.calendar.specs.Limits.{second_micros}
use Rattle.line.specs.declared.Line.{Line}
use Rattle.run.specs.Run.{bad_count, bad_step, run_bytes}
use Rattle.run_line.specs.Answer.{line_day}
use Rattle.instants.specs.declared.refusal.Refusal.TheVariants.{Day, RunCount, RunStep}

-- the refusals that the run of a line can have: 0 h is never refused, and the program's buffer has room for every count
abbrev pub short_run_cases : Line → List Case
short_run_cases l =
    case RunCount (bad_count l.count)
    ∷ case RunStep (bad_step (l.step * second_micros))
    ∷ case Day (lt_z last_day (later_day (line_day l) 0 ((l.count - 1) * (l.step * second_micros))))
    ∷ []

-- the refusals that a line can have
abbrev pub short_cases : Line → List Case
short_cases l = date_cases l.year l.month l.day ++ short_run_cases l

-- the records of the run that a line asks for
abbrev pub line_run : Line → List ℕ
line_run l = run_bytes (line_day l) 0 (l.step * second_micros) l.count
