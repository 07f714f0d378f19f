-- Demand 2 holds. Each field is proved from the theorem of its service that docs/PROMISES.md names. Assumes nothing.
use mathlib.Core.Path.{◌≡◌, refl, sym, ◌∙◌}
use mathlib.Core.Logic.{⊎_elim}
use mathlib.Core.List.{List}
use Prim.Native.Nat.{◌+◌, ◌<◌}
use lib.Dec.{T}
use lib.IntN.{pos, neg_ℤ}
use lib.Ieee.{le}
use Rattle.calendar.proofs.Inverse.{there_and_back, back_and_there, has_date, next_date}
use Rattle.calendar.proofs.Times.{instant_accepted}
use Rattle.instants.specs.Instants.{instant, outside, day_index, day_at_index, acceptance, IsAccepted}
use Rattle.instants.specs.Moments.{moment_of}
use Rattle.instants.specs.declared.Instant.{Instant}
use Rattle.calendar.specs.Dates.{leap_year, month_lengths, month_length, sum, year_length, days_of_years, days_before, date_index}
use Rattle.utc.specs.Table.{first_step, later_steps, begun, tai_minus_utc, is_eve, has_second60}
use Rattle.utc.specs.Readings.{reading, reading_micros, AcceptedReading}
use Rattle.utc.specs.Conversions.{tt_of, day_begins, utc_of}
use Rattle.utc.specs.declared.Reading.{Reading}
use Rattle.utc.proofs.Steps.{table_rule_lem}
use Rattle.utc.proofs.Inverse.{reading_there_and_back, instant_there_and_back}
use Rattle.utc.proofs.Unique.{accepted_answered, answered_accepted, tt_accepted, one_reading, refused_unread, unread_refused}
use Rattle.utc.proofs.PhaseInstants.{parts_accepted, phase_instant_of, accepted_phase, sixty_past_the_day}
use Rattle.utc.proofs.Following.{next_second_lem}
use Rattle.utc.proofs.Eves.{sixty_only, sixty_there}
use Rattle.clock.proofs.Words.{split_accepted, split_then_join, JoinedExactly, joined_exactly}
use Rattle.binary64.specs.Words.{whole}
use Rattle.tide.specs.Tidal.{day_fraction, centuries, arguments_of, constituent_of, all_in_range, tide_of}
use Rattle.tide.specs.declared.Doodson.{Doodson}
use Rattle.tide.proofs.Promises.{frequency_finite, phase_in_turn, at_instant, zeros_give_zero, fraction_from_one}
use Rattle.tide.proofs.Published.{published}
use Rattle.rows.specs.declared.Row.{Row}
use Rattle.rows.specs.declared.Place.TheVariants.{Between}
use Rattle.rows.specs.Table.{row, AcceptedTable}
use Rattle.rows.specs.BuiltIn.{built_in}
use Rattle.rows.specs.Places.{started, place}
use Rattle.rows.proofs.Accepted.{accepted_row, rising, accepted_rows, built_in_accepted}
use Rattle.rows.proofs.Interpolated.{uncertainty_above, built_in_above}
use Rattle.row_bytes.specs.Form.{table_in}
use Rattle.row_bytes.proofs.Forms.{table_held}
use Rattle.row_bytes.proofs.Round.{table_back, table_accepted}
use Rattle.row_bytes.proofs.Again.{table_again}
use Rattle.row_places.proofs.Halving.{halving_neighbours, halving_lower, halving_upper}
use Rattle.row_places.proofs.Probes.{lookup_amid, lookup_place, probes_before, probes_after, probes_answered, probes_looked_up, built_in_looked_up, most_five, rows_most, most_eight}
use Rattle.row_places.proofs.Examples.{some_probes, some_eight}
use Rattle.nutation.proofs.Promises.{rows_answered, built_in_alike}
use Rattle.nutation.proofs.Uncertainty.{u_interpolated, answered_above, rows_above}
use Rattle.record.proofs.Round.{read_written}
use Rattle.record.proofs.Again.{written_again}
use Rattle.record.proofs.Kept.{write_keeps, read_front}
use Rattle.record.proofs.Changed.{changed_byte}
use Rattle.run.proofs.Records.{run_keeps}
use Rattle.run.proofs.ReadBack.{record_place}
use Rattle.instants.proofs.LaterInstants.{later_by}
use Rattle.promises.specs.AnyInput.{days_with_second60}
use Rattle.promises.proofs.Utc.{eves}
use Rattle.promises.proofs.Rescued.{rescued_exactly}
use Rattle.promises.proofs.Angles.{angles_exactly}
use Rattle.promises.proofs.Compared.{compared_exactly}
use Rattle.promises.specs.Exactness.{KeepsRules, Exactness}
use Rattle.std.specs.Prelude.{Ok, Err}
use Rattle.instants.specs.declared.refusal.Refusal.TheVariants.{UtcEarly, UtcExpired}

-- ---- some readings and instants, computed

readings :
    (tt_of (reading 2009 6 25 0 0 0 0) ≡ Ok (instant (pos 55007) 66_184_000))
    × (tt_of (reading 2016 12 31 23 59 60 500_000) ≡ Ok (instant (pos 57754) 68_684_000))
    × (tt_of (reading 1972 1 1 0 0 0 0) ≡ Ok (instant (pos 41317) 42_184_000))
    × (tt_of (reading 2025 6 27 23 59 59 999_999) ≡ Ok (instant (pos 60854) 69_183_999))
unfolding tt_of tai_minus_utc begun first_step later_steps has_second60 is_eve day_at_index month_length date_index days_of_years days_before year_length sum month_lengths leap_year
readings = (refl, refl, refl, refl)

before_and_after : (utc_of (pos 41317) 42_183_999 ≡ Err UtcEarly) × (utc_of (pos 60854) 69_184_000 ≡ Err UtcExpired)
unfolding utc_of day_begins outside day_index tai_minus_utc begun first_step later_steps date_index days_of_years days_before year_length sum month_lengths leap_year
before_and_after = (refl, refl)

-- ---- the instant for phases of a reading

corrected : (r : Reading) (t : Instant) (k : Doodson) → tt_of r ≡ Ok t → T (all_in_range k)
    → tide_of r k ≡ Ok (constituent_of (arguments_of (day_fraction (reading_micros r)) (centuries t.day (day_fraction t.micros))) k)
corrected r t k e = at_instant (record { tt = t; utc = r; together = e }) k

past_the_day : (r : Reading) → AcceptedReading r → 59 < r.second → (reading_micros r ≡ 86_400_000_000 + r.microsecond) × T (le (whole (pos 1)) (day_fraction (reading_micros r)))
past_the_day r a h = let p = phase_instant_of r a in (sixty_past_the_day p h, fraction_from_one p h)

-- ---- the rules of a table, in figures

keeps_rules : (rows : List Row) → AcceptedTable rows → KeepsRules rows
keeps_rules rows a = record {
  rows_2_to_200 = (a.fewest, a.most);
  days = λ i h. let r = accepted_row rows a i h in (r.from, r.to);
  rising = rising rows a;
  amplitudes = λ i h. let r = accepted_row rows a i h in (r.xc_small, r.xs_small);
  uncertainties = λ i h. let r = accepted_row rows a i h in (r.uncertainty_positive, r.uncertainty_small);
}

rules_accepted : (rows : List Row) → KeepsRules rows → AcceptedTable rows
rules_accepted rows k = accepted_rows rows k.rows_2_to_200.0 k.rows_2_to_200.1
    (λ i h. record {
      from = (k.days i h).0;
      to = (k.days i h).1;
      xc_small = (k.amplitudes i h).0;
      xs_small = (k.amplitudes i h).1;
      uncertainty_positive = (k.uncertainties i h).0;
      uncertainty_small = (k.uncertainties i h).1;
    }) k.rising

-- ---- an instant between two rows, computed

some_between : IsAccepted (pos 45883) 0
    × (place built_in (moment_of (pos 45883) 0) ≡ Between (row 45700 (pos 455) (neg_ℤ (pos 3658)) 1972) (row 46066 (neg_ℤ (pos 14182)) (neg_ℤ (pos 10535)) 1112))
unfolding acceptance outside day_index built_in place started
some_between = (refl, refl)

-- PROMISE. Demand 2: exactness.
pub exactness : Exactness
exactness = record {
  date_there_and_back = there_and_back;
  day_there_and_back = back_and_there;
  every_day_has_a_date = has_date;
  next_day_next_date = next_date;
  instant_of_date = instant_accepted;
  split_and_joined = λ d m a. (split_accepted d m a, split_then_join d m a);
  joined_exactly = λ d e k m a b n. let j : JoinedExactly d e m = joined_exactly d e k m a b n in (j.same, j.other);
  parts_belong_together = parts_accepted;
  accepted_reading_has_phases = accepted_phase;
  corrected_expression = corrected;
  second_60_past_the_day = past_the_day;
  published_phases = published;
  frequency_finite = frequency_finite;
  phase_in_turn = phase_in_turn;
  zeros_give_zero = zeros_give_zero;
  table_keeps_rules = λ s e. keeps_rules (table_in s) (table_held s e);
  table_written_again = table_again;
  table_reads_back = λ rows k. (table_accepted rows (rules_accepted rows k), table_back rows (rules_accepted rows k));
  rows_of_bytes = rows_answered;
  built_in_rows = built_in_alike;
  interpolated_above_zero = λ rows k. uncertainty_above rows (rules_accepted rows k);
  built_in_keeps_rules = keeps_rules built_in built_in_accepted;
  built_in_above_zero = built_in_above;
  u_as_interpolated = λ rows k. u_interpolated rows (rules_accepted rows k);
  uncertainty_above_zero = answered_above;
  rows_uncertainty_above_zero = rows_above;
  some_between = some_between;
  halving_neighbours = halving_neighbours;
  halving_lower = halving_lower;
  halving_upper = halving_upper;
  lookup_halves = lookup_amid;
  no_probe_at_ends = λ rows x. ⊎_elim (probes_before rows x) (probes_after rows x);
  rows_found = λ rows k x. sym (lookup_place rows x (rules_accepted rows k));
  probes_built_in = built_in_looked_up;
  probes_of_bytes = λ s e d m a. probes_answered s e d m ∙ probes_looked_up (table_in s) d m a;
  most_five = most_five;
  most_of_rows = rows_most;
  most_eight = most_eight;
  some_probes = some_probes;
  some_eight = some_eight;
  record_reads_back = read_written;
  record_written_again = written_again;
  record_reads_front = read_front;
  record_keeps_behind = λ d m ut1 lod rate old. ((write_keeps d m ut1 lod rate old).size, (write_keeps d m ut1 lod rate old).behind);
  record_changed = changed_byte;
  run_record_place = record_place;
  run_later = later_by;
  run_keeps_behind = λ d m count step old. ((run_keeps d m count step old).size, (run_keeps d m count step old).behind);
  accepted_reading_has_instant = accepted_answered;
  reading_with_instant_accepted = λ r t e. (answered_accepted r t e, tt_accepted r t e);
  one_reading = one_reading;
  reading_there_and_back = reading_there_and_back;
  instant_there_and_back = instant_there_and_back;
  refused_is_unread = refused_unread;
  unread_is_refused = unread_refused;
  table_rule_lem = table_rule_lem;
  days_with_second_60 = eves;
  second_60_only = sixty_only days_with_second60 eves;
  second_60_there = sixty_there days_with_second60 eves;
  time_runs_on = next_second_lem;
  a_reading = readings.0;
  a_second_60 = readings.1;
  first_and_last = (reading_there_and_back _ _ readings.2, reading_there_and_back _ _ readings.3);
  before_and_after = before_and_after;
  rescued = rescued_exactly;
  angles = angles_exactly;
  compared = compared_exactly;
}
