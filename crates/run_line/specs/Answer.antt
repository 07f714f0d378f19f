-- What the program writes for its input: the run that the first line asks for, from 0 h on; a refusal; or a bad line (docs/RULES.md).
use Rattle.std.specs.Prelude.{ℕ, ◌*◌, List, ℤ, Option, Some, None}
use Rattle.instants.specs.Refusals.{Case, refused_or}
use Rattle.calendar.specs.Dates.{date, date_index, date_cases}
use Rattle.instants.specs.Instants.{day_at_index}
use Rattle.line.specs.declared.Line.{Line}
use Rattle.line.specs.Lines.{line_of}
use Rattle.run.specs.Run.{run_cases, run_bytes}
use Rattle.calendar.specs.Limits.{second_micros}
use Rattle.text.specs.Text.{refused_text}
use Rattle.run_line.specs.Words.{bad_text}

-- the bytes of the program's buffer
abbrev pub room : ℕ
room = 2880

-- the day number of a line's date
abbrev pub line_day : Line → ℤ
line_day l = day_at_index (date_index (date l.year l.month l.day))

-- the refusals of a run into that buffer from 0 h of a day, with a step in seconds
abbrev pub day_run_cases : ℤ → (count step : ℕ) → List Case
day_run_cases d count step = run_cases d 0 count (step * second_micros) room

-- what is written for such a run
unfoldable pub day_run_text : ℤ → (count step : ℕ) → List ℕ
day_run_text d count step = refused_or refused_text (day_run_cases d count step) (run_bytes d 0 (step * second_micros) count)

-- what is written for a line: the refusals of its date come before those of the run
abbrev pub line_text : Option Line → List ℕ
line_text None = bad_text
line_text (Some l) = refused_or refused_text (date_cases l.year l.month l.day) (day_run_text (line_day l) l.count l.step)

-- what is written for the bytes s of the input
unfoldable pub answer_text : List ℕ → List ℕ
answer_text s = line_text (line_of s)
