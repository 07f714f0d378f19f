-- The words of the promises on UTC: the table's rule, the days before its rows, and the instant and the reading a second later.
use Rattle.std.specs.Prelude.{ℕ, ◌+◌, Bool, true, false, cond, ◌&&◌, List, [], ◌∷◌, eqb, ltb, length}
use Rattle.instants.specs.Refusals.{first_refusal}
use Rattle.instants.specs.Instants.{instant, later_day, later_micros}
use Rattle.instants.specs.declared.Instant.{Instant}
use Rattle.calendar.specs.Limits.{second_micros}
use Rattle.calendar.specs.Dates.{date, date_index, next, date_cases}
use Rattle.calendar.specs.declared.Date.{Date}
use Rattle.utc.specs.Table.{Step, first_step, later_steps}
use Rattle.utc.specs.Readings.{reading, reading_index, last_second}
use Rattle.utc.specs.declared.Reading.{Reading}

-- each row is of a later day than the one before it, and a second more
unfoldable pub rising : Step → List Step → Bool
rising r [] = true
rising r (q ∷ qs) = ltb (date_index r.from) (date_index q.from) && (eqb q.seconds (r.seconds + 1) && rising q qs)

-- the seconds of the last row
unfoldable pub last_seconds : Step → List Step → ℕ
last_seconds r [] = r.seconds
last_seconds r (q ∷ qs) = last_seconds q qs

-- the table's rule: 28 rows, from 10 seconds to 37, rising
unfoldable pub table_rule : Bool
table_rule =
    eqb (length (first_step ∷ later_steps)) 28 && (eqb first_step.seconds 10 && (eqb (last_seconds first_step later_steps) 37 && rising first_step later_steps))

-- t is a date that is not refused, and the day before the row r
unfoldable pub eve_of : Date → Step → Bool
eve_of t r = eqb (first_refusal (date_cases t.year t.month t.day)) 0 && eqb (date_index t + 1) (date_index r.from)

-- the dates are the days before the rows, one for each
unfoldable pub eves_of : List Date → List Step → Bool
eves_of [] [] = true
eves_of [] (r ∷ rs) = false
eves_of (t ∷ ts) [] = false
eves_of (t ∷ ts) (r ∷ rs) = eve_of t r && eves_of ts rs

-- the instant a second later
abbrev pub instant_second_later : Instant → Instant
instant_second_later t = instant (later_day t.day t.micros second_micros) (later_micros t.micros second_micros)

-- the reading a second later: the next second of the minute, else the next minute, hour or day
unfoldable pub next_second : Reading → Reading
next_second r =
    let t = next (date r.year r.month r.day) in
    cond (ltb r.second (last_second (reading_index r) r.hour r.minute))
    (reading r.year r.month r.day r.hour r.minute (r.second + 1) r.microsecond)
    (cond (ltb r.minute 59) (reading r.year r.month r.day r.hour (r.minute + 1) 0 r.microsecond)
    (cond (ltb r.hour 23) (reading r.year r.month r.day (r.hour + 1) 0 0 r.microsecond)
    (reading t.year t.month t.day 0 0 0 r.microsecond)))
