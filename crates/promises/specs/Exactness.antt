-- Demand 2: exactness. Dates each way; frequency and phase; records read back; clock words joined exactly when they are of one day; rows from the caller
-- read as they were written; uncertainties above 0; the lookup of rows, and the number of its probes; UTC readings and instants each way; records rescued;
-- angles; record files compared.
use Rattle.std.specs.Prelude.{ℕ, suc, ◌+◌, ◌*◌, ◌-◌, ◌/◌, ◌^◌, ◌≤◌, ◌<◌, ◌≡◌, false, List, ◌++◌, ◌⊎◌, T, ℤ, pos, neg_ℤ, ◌+ℤ◌, ◌-ℤ◌, nat_abs, ◌<ℤ◌, length, take, drop, get_or, set, Ok, Err}
use Rattle.std.specs.Float.Ieee.{le}
use Rattle.std.specs.Int.{w32}
use Rattle.std.proofs.Common.{SFits}
use Rattle.instants.specs.Limits.{day_micros}
use Rattle.instants.specs.Instants.{instant, outside, day_index, IsAccepted, later_day, later_micros}
use Rattle.calendar.specs.Dates.{date, next, date_after, day_of, date_of}
use Rattle.calendar.specs.Times.{instant_of}
use Rattle.calendar.specs.declared.Date.{Date}
use Rattle.instants.specs.declared.Instant.{Instant}
use Rattle.calendar.specs.Claims.{one_of}
use Rattle.utc.specs.Table.{later_steps}
use Rattle.utc.specs.Readings.{reading, reading_index, reading_micros, AcceptedReading}
use Rattle.utc.specs.Conversions.{tt_at, tt_of, utc_of, reading_refusal_of}
use Rattle.utc.specs.PhaseInstants.{PhaseInstant}
use Rattle.utc.specs.Claims.{table_rule, eves_of, instant_second_later, next_second}
use Rattle.utc.specs.declared.Reading.{Reading}
use Rattle.promises.specs.AnyInput.{days_with_second60}
use Rattle.promises.specs.Rescued.{RescuedExactly}
use Rattle.promises.specs.Angles.{AnglesExactly}
use Rattle.promises.specs.Compared.{ComparedExactly}
use Rattle.clock.specs.Words.{words, time_word, split_of, join_of}
use Rattle.binary64.specs.Words.{whole, zero64}
use Rattle.binary64.specs.Claims.{Finite, InRange, within}
use Rattle.tide.specs.Tidal.{day_fraction, centuries, arguments_of, constituent_of, turn64, all_in_range, tide_of, frequency_of, phase_of, doodson}
use Rattle.tide.specs.Claims.{m2}
use Rattle.tide.specs.declared.Doodson.{Doodson}
use Rattle.bigendian.specs.Numbers.{Bytes}
use Rattle.rows.specs.declared.Row.{Row}
use Rattle.rows.specs.declared.Place.TheVariants.{Between}
use Rattle.rows.specs.Table.{row, row_at}
use Rattle.rows.specs.BuiltIn.{built_in}
use Rattle.rows.specs.Places.{row_moment, place, parts}
use Rattle.rows.specs.Claims.{interpolated_uncertainty}
use Rattle.row_bytes.specs.Form.{table_bytes, table_in, AcceptedBytes}
use Rattle.row_places.specs.Lookup.{bracket, halving, lookup_of, place_in, probes_of, probes_rows_of}
use Rattle.nutation.specs.Exact.{u_value, u_parts}
use Rattle.nutation.specs.Ours.{nutation_with, nutation_of, nutation_rows_of, uncertainty_of}
use Rattle.record.specs.Format.{record_length}
use Rattle.record.specs.Records.{record_with, write_refusal, written, read_of}
use Rattle.record.specs.declared.Record.{Record}
use Rattle.instants.specs.Moments.{since_j2000, moment_of}
use Rattle.run.specs.Run.{run_refusal, record_at, run_written}
use Rattle.instants.specs.declared.refusal.Refusal.TheVariants.{WordsDisagree, UtcEarly, UtcExpired}

-- a table of rows in the figures of its rules
pub record KeepsRules (rows : List Row) : Type 0 where
  pub rows_2_to_200 : (2 ≤ length rows) × (length rows ≤ 200)
  pub days : (i : ℕ) → i < length rows → (15020 ≤ (row_at rows i).day) × ((row_at rows i).day ≤ 88433)
  pub rising : (i : ℕ) → suc i < length rows → (row_at rows i).day < (row_at rows (suc i)).day
  pub amplitudes : (i : ℕ) → i < length rows → (nat_abs (row_at rows i).xc ≤ 100_000) × (nat_abs (row_at rows i).xs ≤ 100_000)
  pub uncertainties : (i : ℕ) → i < length rows → (0 < (row_at rows i).uncertainty) × ((row_at rows i).uncertainty ≤ 100_000)

pub record Exactness : Type 0 where
  -- (a) the date of a date's day number is that date, and the day number of a day number's date is that day number
  pub date_there_and_back : (y m d : ℕ) (z : ℤ) → day_of y m d ≡ Ok z → date_of z ≡ Ok (date y m d)
  pub day_there_and_back : (z : ℤ) (t : Date) → date_of z ≡ Ok t → day_of t.year t.month t.day ≡ Ok z
  -- every day number in range has a date, and the next day is the next date, month and year ends included
  pub every_day_has_a_date : (z : ℤ) → outside z ≡ false → date_of z ≡ Ok (date_after (day_index z))
  pub next_day_next_date : (z : ℤ) (t : Date) → date_of z ≡ Ok t → outside (z +ℤ pos 1) ≡ false → date_of (z +ℤ pos 1) ≡ Ok (next t)
  -- (b) the instant of a date and time is accepted, and of the date's day
  pub instant_of_date : (y m d h n s u : ℕ) (t : Instant) → instant_of y m d h n s u ≡ Ok t → (day_of y m d ≡ Ok t.day) × IsAccepted t.day t.micros
  -- (c) an accepted instant is split and joined again
  pub split_and_joined : (d : ℤ) (m : ℕ) → IsAccepted d m → (split_of d m ≡ Ok (words d (time_word d m))) × (join_of d (time_word d m) ≡ Ok (instant d m))
  -- the day word of one accepted moment and the time word of another, whose day numbers differ by less than eight, are joined exactly when both are of
  -- one day, and then give the moment of the time word
  pub joined_exactly : (d e : ℤ) (k m : ℕ) → IsAccepted d k → IsAccepted e m → nat_abs (d -ℤ e) < 8
      → (d ≡ e → join_of d (time_word e m) ≡ Ok (instant e m)) × ((d ≡ e → ⊥) → join_of d (time_word e m) ≡ Err WordsDisagree)
  -- (d) an instant for phases has an accepted reading, whose instant is its TT part and accepted, and every accepted reading has one
  pub parts_belong_together : (p : PhaseInstant) → AcceptedReading p.utc × (tt_of p.utc ≡ Ok p.tt) × IsAccepted p.tt.day p.tt.micros
  pub accepted_reading_has_phases : (r : Reading) → AcceptedReading r → (p : PhaseInstant) × (p.utc ≡ r)
  -- frequency and phase are the expression in its order: the fraction of 360 f is the reading's, and the centuries are those of its instant
  pub corrected_expression : (r : Reading) (t : Instant) (k : Doodson) → tt_of r ≡ Ok t → T (all_in_range k)
      → tide_of r k ≡ Ok (constituent_of (arguments_of (day_fraction (reading_micros r)) (centuries t.day (day_fraction t.micros))) k)
  -- in second 60 that fraction is of a whole day and the reading's microseconds, and as a number of binary64 1 or more
  pub second_60_past_the_day : (r : Reading) → AcceptedReading r → 59 < r.second
      → (reading_micros r ≡ 86_400_000_000 + r.microsecond) × T (le (whole (pos 1)) (day_fraction (reading_micros r)))
  -- the published cases, M2 at UTC 2009-06-25, 0 h and 12:01:45, within a millionth of a degree
  pub published_phases :
      T (within 6 12 303_343338720297 (phase_of (tide_of (reading 2009 6 25 0 0 0 0) m2)))
      × T (within 6 12 291_997959322689 (phase_of (tide_of (reading 2009 6 25 12 1 45 0) m2)))
  -- as the calls of one number give them: the frequency is a finite number, the phase is at least 0 and below 360, and six zero multipliers give
  -- +0 and +0
  pub frequency_finite : (r : Reading) (k : Doodson) → Finite (frequency_of (tide_of r k))
  pub phase_in_turn : (r : Reading) (k : Doodson) → InRange turn64 (phase_of (tide_of r k))
  pub zeros_give_zero : (r : Reading) → AcceptedReading r
      → tide_of r (doodson (pos 0) (pos 0) (pos 0) (pos 0) (pos 0) (pos 0)) ≡ Ok (record { frequency = zero64; phase = zero64 })
  -- (f) accepted bytes hold a table that keeps the rules, and are that table's byte form
  pub table_keeps_rules : (s : List ℕ) → AcceptedBytes s → KeepsRules (table_in s)
  pub table_written_again : (s : List ℕ) → Bytes s → AcceptedBytes s → table_bytes (table_in s) ≡ s
  -- rows that keep the rules, written as bytes, are accepted and read back
  pub table_reads_back : (rows : List Row) → KeepsRules rows → AcceptedBytes (table_bytes rows) × (table_in (table_bytes rows) ≡ rows)
  -- both editions are one service over a table: accepted bytes are answered by their rows at every instant, a refused one too; and the built-in rows,
  -- written as bytes, are accepted and answered by what the built-in edition gives
  pub rows_of_bytes : (s : List ℕ) → AcceptedBytes s → (d : ℤ) (m : ℕ) → nutation_rows_of s d m ≡ nutation_with (table_in s) d m
  pub built_in_rows : AcceptedBytes (table_bytes built_in) × ((d : ℤ) (m : ℕ) → nutation_rows_of (table_bytes built_in) d m ≡ nutation_of d m)
  -- of rows that keep the rules the uncertainties, interpolated as the amplitudes are to a number that could have either sign, are above 0 at every moment x,
  -- numerator and denominator. The built-in rows keep the rules, so that it holds of them
  pub interpolated_above_zero : (rows : List Row) → KeepsRules rows → (x : ℕ) → (pos 0 <ℤ interpolated_uncertainty (place rows x) x) × (0 < parts (place rows x))
  pub built_in_keeps_rules : KeepsRules built_in
  pub built_in_above_zero : (x : ℕ) → (pos 0 <ℤ interpolated_uncertainty (place built_in x) x) × (0 < parts (place built_in x))
  -- between two rows of a table that keeps the rules u is that number: its absolute value is itself
  pub u_as_interpolated : (rows : List Row) → KeepsRules rows → (x : ℕ) (a b : Row) → place rows x ≡ Between a b
      → (pos (u_value (Between a b) x) ≡ interpolated_uncertainty (Between a b) x) × (u_parts (Between a b) ≡ parts (Between a b))
  -- the uncertainty that is given at an accepted instant is above 0, with the built-in rows and with the caller's
  pub uncertainty_above_zero : (d : ℤ) (m : ℕ) → IsAccepted d m → 0 < uncertainty_of (nutation_of d m)
  pub rows_uncertainty_above_zero : (s : List ℕ) → AcceptedBytes s → (d : ℤ) (m : ℕ) → IsAccepted d m → 0 < uncertainty_of (nutation_rows_of s d m)
  -- an accepted instant between two built-in rows exists, the later of which has the smaller uncertainty
  pub some_between : IsAccepted (pos 45883) 0
      × (place built_in (moment_of (pos 45883) 0) ≡ Between (row 45700 (pos 455) (neg_ℤ (pos 3658)) 1972) (row 46066 (neg_ℤ (pos 14182)) (neg_ℤ (pos 10535)) 1112))
  -- the lookup of a moment x halves: neighbours are what it gives; else the middle row, rounded down, is probed and becomes the lower end where it is dated
  -- at or before x, the upper where it is later
  pub halving_neighbours : (rows : List Row) (x lower upper probes : ℕ) → upper ≤ lower + 1 → halving rows x (bracket lower upper probes) ≡ bracket lower upper probes
  pub halving_lower : (rows : List Row) (x lower upper probes : ℕ) → lower + 1 < upper → row_moment (row_at rows ((lower + upper) / 2)) ≤ x
      → halving rows x (bracket lower upper probes) ≡ halving rows x (bracket ((lower + upper) / 2) upper (probes + 1))
  pub halving_upper : (rows : List Row) (x lower upper probes : ℕ) → lower + 1 < upper → x < row_moment (row_at rows ((lower + upper) / 2))
      → halving rows x (bracket lower upper probes) ≡ halving rows x (bracket lower ((lower + upper) / 2) (probes + 1))
  -- between the dates of the first and the last row it starts from these two; at or outside the ends nothing is probed
  pub lookup_halves : (rows : List Row) (x : ℕ) → row_moment (row_at rows 0) < x → x < row_moment (row_at rows (length rows - 1))
      → lookup_of rows x ≡ halving rows x (bracket 0 (length rows - 1) 0)
  pub no_probe_at_ends : (rows : List Row) (x : ℕ) → (x ≤ row_moment (row_at rows 0)) ⊎ (row_moment (row_at rows (length rows - 1)) ≤ x) → (lookup_of rows x).probes ≡ 0
  -- in a table that keeps the rules the rows that it finds are those of the place, by which the offsets are defined
  pub rows_found : (rows : List Row) → KeepsRules rows → (x : ℕ) → place_in rows (lookup_of rows x) ≡ place rows x
  -- the probes of both editions at an accepted instant are the lookup's, in the built-in rows and in those of accepted bytes
  pub probes_built_in : (d : ℤ) (m : ℕ) → IsAccepted d m → probes_of d m ≡ (lookup_of built_in (moment_of d m)).probes
  pub probes_of_bytes : (s : List ℕ) → AcceptedBytes s → (d : ℤ) (m : ℕ) → IsAccepted d m → probes_rows_of s d m ≡ (lookup_of (table_in s) (moment_of d m)).probes
  -- they are at most five, and with n rows in bytes at most p for every p with n - 1 at most 2^p, and never more than eight
  pub most_five : (d : ℤ) (m : ℕ) → probes_of d m ≤ 5
  pub most_of_rows : (s : List ℕ) (p : ℕ) → (length s - 3) / 16 - 1 ≤ 2 ^ p → (d : ℤ) (m : ℕ) → probes_rows_of s d m ≤ p
  pub most_eight : (s : List ℕ) (d : ℤ) (m : ℕ) → probes_rows_of s d m ≤ 8
  -- there are such: at the first row's date and a microsecond later, a microsecond before the eighth row's date and at it, and so at the last row's date;
  -- and eight in a table of two hundred rows
  pub some_probes : (probes_of (pos 45700) 0 ≡ 0) × (probes_of (pos 45700) 1 ≡ 4) × (probes_of (pos 48256) 86_399_999_999 ≡ 5) × (probes_of (pos 48257) 0 ≡ 4)
      × (probes_of (pos 56292) 86_399_999_999 ≡ 5) × (probes_of (pos 56293) 0 ≡ 0)
  pub some_eight : (s : List ℕ) × (d : ℤ) × (m : ℕ) × AcceptedBytes s × ((length s - 3) / 16 ≡ 200) × (probes_rows_of s d m ≡ 8)
  -- (g) a record written at an accepted instant, with any three numbers of 32 bits, into thirty bytes or more reads back as it was
  pub record_reads_back : (d : ℤ) (m : ℕ) (ut1 lod rate : ℤ) (old : List ℕ) → IsAccepted d m → record_length ≤ length old → SFits w32 ut1 → SFits w32 lod → SFits w32 rate
      → read_of (written d m ut1 lod rate old) ≡ Ok (record_with d m ut1 lod rate)
  -- what thirty bytes gave when read, written, makes the same thirty bytes; what stood behind them stays
  pub record_written_again : (s : List ℕ) (r : Record) (old : List ℕ) → Bytes s → read_of s ≡ Ok r → record_length ≤ length old
      → (write_refusal r.day r.micros (length old) ≡ 0) × (written r.day r.micros r.ut1 r.lod r.rate old ≡ take record_length s ++ drop record_length old)
  -- only the first thirty bytes are read, and writing changes no byte behind them
  pub record_reads_front : (s : List ℕ) → read_of (take record_length s) ≡ read_of s
  pub record_keeps_behind : (d : ℤ) (m : ℕ) (ut1 lod rate : ℤ) (old : List ℕ)
      → (length (written d m ut1 lod rate old) ≡ length old) × (drop record_length (written d m ut1 lod rate old) ≡ drop record_length old)
  -- a record of which one byte was changed does not read
  pub record_changed : (s : List ℕ) (r : Record) (i b : ℕ) → Bytes s → read_of s ≡ Ok r → i < record_length → b < 256 → (get_or s i 0 ≡ b → ⊥)
      → (q : Record) → read_of (set s i b) ≡ Ok q → ⊥
  -- a run that is not refused: record k fills bytes 30 k to 30 k + 29, and its instant is k steps after the start; no byte behind its records changes
  pub run_record_place : (d : ℤ) (m count step : ℕ) (old : List ℕ) → run_refusal d m count step (length old) ≡ 0 → (k : ℕ) → k < count
      → take record_length (drop (record_length * k) (run_written d m count step old)) ≡ record_at (later_day d m (k * step)) (later_micros m (k * step))
  pub run_later : (d : ℤ) (m t : ℕ) → (since_j2000 (later_day d m t) (later_micros m t) ≡ since_j2000 d m +ℤ pos t) × (later_micros m t < day_micros)
  pub run_keeps_behind : (d : ℤ) (m count step : ℕ) (old : List ℕ)
      → (length (run_written d m count step old) ≡ length old) × (drop (record_length * count) (run_written d m count step old) ≡ drop (record_length * count) old)
  -- (h) a UTC reading is accepted exactly when it has an instant, and that instant is accepted
  pub accepted_reading_has_instant : (r : Reading) → AcceptedReading r → tt_of r ≡ Ok (tt_at (reading_index r) (reading_micros r))
  pub reading_with_instant_accepted : (r : Reading) (t : Instant) → tt_of r ≡ Ok t → AcceptedReading r × IsAccepted t.day t.micros
  -- two accepted readings that have one instant are the same reading
  pub one_reading : (r q : Reading) (t : Instant) → tt_of r ≡ Ok t → tt_of q ≡ Ok t → r ≡ q
  -- the reading of a reading's instant is that reading, and the instant of an instant's reading is that instant
  pub reading_there_and_back : (r : Reading) (t : Instant) → tt_of r ≡ Ok t → utc_of t.day t.micros ≡ Ok r
  pub instant_there_and_back : (d : ℤ) (m : ℕ) (r : Reading) → utc_of d m ≡ Ok r → tt_of r ≡ Ok (instant d m)
  -- a refused instant is no reading's; an accepted instant that is no reading's is refused, by 19 or 20
  pub refused_is_unread : (d : ℤ) (m : ℕ) → (reading_refusal_of (utc_of d m) ≡ 0 → ⊥) → (r : Reading) → tt_of r ≡ Ok (instant d m) → ⊥
  pub unread_is_refused : (d : ℤ) (m : ℕ) → IsAccepted d m → ((r : Reading) → tt_of r ≡ Ok (instant d m) → ⊥) → (utc_of d m ≡ Err UtcEarly) ⊎ (utc_of d m ≡ Err UtcExpired)
  -- the table keeps its rule, and the 27 dates of the figures are the days before its later rows; a second past 59 is accepted exactly at 23:59:60 of these
  pub table_rule_lem : T table_rule
  pub days_with_second_60 : T (eves_of days_with_second60 later_steps)
  pub second_60_only : (r : Reading) → AcceptedReading r → 59 < r.second
      → (r.second ≡ 60) × (r.hour ≡ 23) × (r.minute ≡ 59) × T (one_of r.year r.month r.day days_with_second60)
  pub second_60_there : (y m d u : ℕ) → T (one_of y m d days_with_second60) → u ≤ 999_999 → AcceptedReading (reading y m d 23 59 60 u)
  -- the reading a second after an accepted one has the instant a second later, or the list expires there
  pub time_runs_on : (r : Reading) (t : Instant) → tt_of r ≡ Ok t
      → (tt_of (next_second r) ≡ Ok (instant_second_later t)) ⊎ (tt_of (next_second r) ≡ Err UtcExpired)
  -- there are such: a reading and its instant, one in second 60, the first and the last microsecond that is answered, and the refused ones beside them
  pub a_reading : tt_of (reading 2009 6 25 0 0 0 0) ≡ Ok (instant (pos 55007) 66_184_000)
  pub a_second_60 : tt_of (reading 2016 12 31 23 59 60 500_000) ≡ Ok (instant (pos 57754) 68_684_000)
  pub first_and_last : (utc_of (pos 41317) 42_184_000 ≡ Ok (reading 1972 1 1 0 0 0 0)) × (utc_of (pos 60854) 69_183_999 ≡ Ok (reading 2025 6 27 23 59 59 999_999))
  pub before_and_after : (utc_of (pos 41317) 42_183_999 ≡ Err UtcEarly) × (utc_of (pos 60854) 69_184_000 ≡ Err UtcExpired)
  -- (i) records are rescued exactly (Rescued.antt)
  pub rescued : RescuedExactly
  -- (j) angles (Angles.antt)
  pub angles : AnglesExactly
  -- (k) comparison (Compared.antt)
  pub compared : ComparedExactly
