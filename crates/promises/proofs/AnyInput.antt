-- Demand 1 holds. Each service's definition is the first of its own cases that applies (a phase's by `in_full`), and its cases compute to those that are
-- written out in specs/AnyInput.antt, in their order; since no case has the number 0, the refusal number tells an answer from a refusal. Assumes nothing.
use mathlib.Core.Path.{◌≡◌, refl, sym, ◌∙◌, ap, subst}
use Prim.Native.Nat.{ℕ}
use mathlib.Core.List.{List, ◌++◌}
use lib.IntN.{ℤ, pos}
use lib.Ieee.{Float}
use Rattle.instants.specs.Refusals.{Case, refused_or, first_refusal, number}
use Rattle.instants.specs.Instants.{outside, instant_cases}
use Rattle.instants.proofs.FirstRefusal.{Refused, handed_on, none_answered, refused_first, first_none}
use Rattle.calendar.specs.Dates.{date_cases, day_of, day_cases, date_of, day_number_or, date_refusal_of, year_or, month_or, day_of_month_or, day_refusal_of}
use Rattle.calendar.specs.Times.{time_cases, instant_of, instant_day_or, instant_micros_or, instant_refusal_of}
use Rattle.instants.specs.Moments.{moment_of}
use Rattle.utc.specs.Readings.{reading_cases}
use Rattle.utc.specs.Conversions as utc
use Rattle.utc.specs.declared.Reading.{Reading}
use Rattle.clock.specs.Words.{split_of, join_cases, join_of, day_word_or, time_word_or, split_refusal_of, joined_day_or, joined_micros_or, join_refusal_of}
use Rattle.binary64.specs.Words.{zero64}
use Rattle.tide.specs.Tidal as tide
use Rattle.tide.specs.declared.Doodson.{Doodson}
use Rattle.tide.specs.declared.Constituent.{Constituent}
use Rattle.tide.proofs.Promises.{in_full}
use Rattle.zonal.specs.Ours as zonal
use Rattle.row_places.proofs.Probes.{probes_refused, rows_probes_refused}
use Rattle.nutation.specs.Ours as nutation
use Rattle.record.specs.Records.{write_cases, write_refusal, read_cases, read_of, record_day_or, record_micros_or, record_ut1_or, record_lod_or, record_rate_or, read_refusal_of}
use Rattle.record.proofs.Kept as kept
use Rattle.run.specs.Run.{run_cases, run_refusal}
use Rattle.run.proofs.Records as records
use Rattle.rescue.specs.Rescue.{kept_count, ranges_in}
use Rattle.rescue.proofs.Promises.{rescue_refusal, rescue_zeroed, rescue_keeps}
use Rattle.compare.proofs.Promises.{compare_zeroed, compare_keeps}
use Rattle.row_bytes.specs.Form.{bytes_cases}
use Rattle.promises.proofs.Angles.{angles, angles_same, angles_zeroed, angles_kept}
use Rattle.promises.proofs.Files.{compare}
use Rattle.promises.proofs.Rows.{handed_rows, rows_offsets}
use Rattle.promises.proofs.Utc.{handed_readings, utc_to_tt, phase, handed_instants, tt_to_utc}
use Rattle.promises.specs.AnyInput.{Number, AnyInputIsAnswered}
use Rattle.std.specs.Prelude.{Result, Ok, Err}
use Rattle.instants.specs.declared.refusal.Refusal.{Refusal}

-- ---- the refusals

date_to_day : (y m d : ℕ) → date_refusal_of (day_of y m d) ≡ first_refusal (date_cases y m d)
unfolding day_of
date_to_day y m d = handed_on Err date_refusal_of (λ n. refl) (date_cases y m d) _

day_to_date : (z : ℤ) → day_refusal_of (date_of z) ≡ first_refusal (day_cases z)
unfolding date_of
day_to_date z = handed_on Err day_refusal_of (λ n. refl) (day_cases z) _

date_and_time : (y m d h n s u : ℕ) → instant_refusal_of (instant_of y m d h n s u) ≡ first_refusal (date_cases y m d ++ time_cases 59 h n s u)
unfolding instant_of
date_and_time y m d h n s u = handed_on Err instant_refusal_of (λ n. refl) (date_cases y m d ++ time_cases 59 h n s u) _

split : (d : ℤ) (m : ℕ) → split_refusal_of (split_of d m) ≡ first_refusal (instant_cases d m)
unfolding split_of
split d m = handed_on Err split_refusal_of (λ n. refl) (instant_cases d m) _

join : (d : ℤ) (t : ℕ) → join_refusal_of (join_of d t) ≡ first_refusal (join_cases d t)
unfolding join_of
join d t = handed_on Err join_refusal_of (λ n. refl) (join_cases d t) _

corrections : (d : ℤ) (m : ℕ) → zonal.zonal_refusal_of (zonal.zonal_of d m) ≡ first_refusal (instant_cases d m)
unfolding zonal.zonal_of
corrections d m = handed_on Err zonal.zonal_refusal_of (λ n. refl) (instant_cases d m) _

offsets : (d : ℤ) (m : ℕ) → nutation.nutation_refusal_of (nutation.nutation_of d m) ≡ first_refusal (instant_cases d m)
unfolding nutation.nutation_of
offsets d m = handed_on Err nutation.nutation_refusal_of (λ n. refl) (instant_cases d m) _

write : (d : ℤ) (m n : ℕ) → write_refusal d m n ≡ first_refusal (write_cases d m n)
unfolding write_refusal
write d m n = refl

read : (s : List ℕ) → read_refusal_of (read_of s) ≡ first_refusal (read_cases s)
unfolding read_of
read s = handed_on Err read_refusal_of (λ n. refl) (read_cases s) _

run : (d : ℤ) (m count step n : ℕ) → run_refusal d m count step n ≡ first_refusal (run_cases d m count step n)
unfolding run_refusal
run d m count step n = refl

-- ---- the numbers

-- A number of a service's answer that is what stood there at every refusal, and at the answer a the answer's own. No case has the number 0, so that the
-- refusal number tells which it is.
module _ {A : Type 0} (refuse : Refusal → A) (refusal : A → ℕ) (cs : List Case) (a : A) (first : refusal (refused_or refuse cs a) ≡ first_refusal cs) where
  value : {B : Type 0} (left : B → A → B) (zero : B) → ((n : Refusal) (old : B) → left old (refuse n) ≡ old) → ((old : B) → left old a ≡ left zero a)
      → Number refusal (left zero) left zero (refused_or refuse cs a)
  value {B} left zero stays gives = record {
    same = λ z old.
        let p = none_answered refuse cs a (first_none cs (sym first ∙ z)) in
        ap (left old) p ∙ gives old ∙ sym (ap (left zero) p);
    zeroed = λ h. refused h zero;
    kept = refused;
  }
    where
      refused : (refusal (refused_or refuse cs a) ≡ 0 → ⊥) → (old : B) → left old (refused_or refuse cs a) ≡ old
      refused h old = let r : Refused refuse cs (refused_or refuse cs a) = refused_first refuse cs a (λ z. h (first ∙ z)) in ap (left old) r.refused ∙ stays r.it old

-- those of a phase, by the equation of its answer
module _ (r : Reading) (k : Doodson) where
  phase_number : (left : Float → Result Constituent Refusal → Float) → ((n : Refusal) (old : Float) → left old (Err n) ≡ old) → ((x : Constituent) (old : Float) → left old (Ok x) ≡ left zero64 (Ok x))
      → Number tide.tide_refusal_of (left zero64) left zero64 (tide.tide_of r k)
  phase_number left stays gives =
      subst (λ (a : (Result Constituent Refusal)). Number tide.tide_refusal_of (left zero64) left zero64 a) (sym (in_full r k))
      (value Err tide.tide_refusal_of (reading_cases r ++ tide.range_cases k) _ (handed_on Err tide.tide_refusal_of (λ n. refl) (reading_cases r ++ tide.range_cases k) _)
      left zero64 stays (gives _))

-- PROMISE. Demand 1: any input is answered.
pub any_input_is_answered : AnyInputIsAnswered
unfolding number outside day_of date_of instant_of utc.tt_of utc.utc_of split_of join_of zonal.zonal_of nutation.nutation_of nutation.nutation_rows_of read_of kept_count ranges_in
any_input_is_answered = record {
  date_to_day = date_to_day;
  date_to_day_numbers = λ y m d. value Err date_refusal_of (date_cases y m d) _ (date_to_day y m d) day_number_or (pos 0) (λ _ _. refl) (λ _. refl);
  day_to_date = day_to_date;
  day_to_date_numbers = λ z. (
    value Err day_refusal_of (day_cases z) _ (day_to_date z) year_or 0 (λ _ _. refl) (λ _. refl),
    value Err day_refusal_of (day_cases z) _ (day_to_date z) month_or 0 (λ _ _. refl) (λ _. refl),
    value Err day_refusal_of (day_cases z) _ (day_to_date z) day_of_month_or 0 (λ _ _. refl) (λ _. refl),
  );
  date_and_time = date_and_time;
  date_and_time_numbers = λ y m d h n s u. (
    value Err instant_refusal_of (date_cases y m d ++ time_cases 59 h n s u) _ (date_and_time y m d h n s u) instant_day_or (pos 0) (λ _ _. refl) (λ _. refl),
    value Err instant_refusal_of (date_cases y m d ++ time_cases 59 h n s u) _ (date_and_time y m d h n s u) instant_micros_or 0 (λ _ _. refl) (λ _. refl),
  );
  split = split;
  split_numbers = λ d m. (
    value Err split_refusal_of (instant_cases d m) _ (split d m) day_word_or (pos 0) (λ _ _. refl) (λ _. refl),
    value Err split_refusal_of (instant_cases d m) _ (split d m) time_word_or 0 (λ _ _. refl) (λ _. refl),
  );
  join = join;
  join_numbers = λ d t. (
    value Err join_refusal_of (join_cases d t) _ (join d t) joined_day_or (pos 0) (λ _ _. refl) (λ _. refl),
    value Err join_refusal_of (join_cases d t) _ (join d t) joined_micros_or 0 (λ _ _. refl) (λ _. refl),
  );
  phase = phase;
  phase_numbers = λ r k. (phase_number r k tide.frequency_or (λ _ _. refl) (λ _ _. refl), phase_number r k tide.phase_or (λ _ _. refl) (λ _ _. refl));
  corrections = corrections;
  corrections_numbers = λ d m. (
    value Err zonal.zonal_refusal_of (instant_cases d m) _ (corrections d m) zonal.ut1_or (pos 0) (λ _ _. refl) (λ _. refl),
    value Err zonal.zonal_refusal_of (instant_cases d m) _ (corrections d m) zonal.lod_or (pos 0) (λ _ _. refl) (λ _. refl),
    value Err zonal.zonal_refusal_of (instant_cases d m) _ (corrections d m) zonal.rate_or (pos 0) (λ _ _. refl) (λ _. refl),
  );
  offsets = offsets;
  offsets_numbers = λ d m. (
    value Err nutation.nutation_refusal_of (instant_cases d m) _ (offsets d m) nutation.x_or (pos 0) (λ _ _. refl) (λ _. refl),
    value Err nutation.nutation_refusal_of (instant_cases d m) _ (offsets d m) nutation.y_or (pos 0) (λ _ _. refl) (λ _. refl),
    value Err nutation.nutation_refusal_of (instant_cases d m) _ (offsets d m) nutation.uncertainty_or 0 (λ _ _. refl) (λ _. refl),
  );
  probes_zeroed = λ d m h. probes_refused d m (λ z. h (offsets d m ∙ z));
  rows_offsets = rows_offsets;
  rows_probes_zeroed = λ s d m h. rows_probes_refused s d m (λ z. h (handed_rows s d m ∙ z));
  rows_offsets_numbers = λ s d m. (
    value Err nutation.nutation_refusal_of (bytes_cases s ++ instant_cases d m) _ (handed_rows s d m) nutation.x_or (pos 0) (λ _ _. refl) (λ _. refl),
    value Err nutation.nutation_refusal_of (bytes_cases s ++ instant_cases d m) _ (handed_rows s d m) nutation.y_or (pos 0) (λ _ _. refl) (λ _. refl),
    value Err nutation.nutation_refusal_of (bytes_cases s ++ instant_cases d m) _ (handed_rows s d m) nutation.uncertainty_or 0 (λ _ _. refl) (λ _. refl),
  );
  record_write = write;
  record_write_keeps = kept.refused_unchanged;
  record_read = read;
  record_read_numbers = λ s. (
    value Err read_refusal_of (read_cases s) _ (read s) record_day_or (pos 0) (λ _ _. refl) (λ _. refl),
    value Err read_refusal_of (read_cases s) _ (read s) record_micros_or 0 (λ _ _. refl) (λ _. refl),
    value Err read_refusal_of (read_cases s) _ (read s) record_ut1_or (pos 0) (λ _ _. refl) (λ _. refl),
    value Err read_refusal_of (read_cases s) _ (read s) record_lod_or (pos 0) (λ _ _. refl) (λ _. refl),
    value Err read_refusal_of (read_cases s) _ (read s) record_rate_or (pos 0) (λ _ _. refl) (λ _. refl),
  );
  run_write = run;
  run_write_keeps = records.refused_unchanged;
  utc_to_tt = utc_to_tt;
  utc_to_tt_numbers = λ r. (
    value Err instant_refusal_of (reading_cases r) _ (handed_readings r) instant_day_or (pos 0) (λ _ _. refl) (λ _. refl),
    value Err instant_refusal_of (reading_cases r) _ (handed_readings r) instant_micros_or 0 (λ _ _. refl) (λ _. refl),
  );
  tt_to_utc = tt_to_utc;
  tt_to_utc_numbers = λ d m. (
    value Err utc.reading_refusal_of (instant_cases d m ++ utc.moment_cases (moment_of d m)) _ (handed_instants d m) utc.reading_year_or 0 (λ _ _. refl) (λ _. refl),
    value Err utc.reading_refusal_of (instant_cases d m ++ utc.moment_cases (moment_of d m)) _ (handed_instants d m) utc.reading_month_or 0 (λ _ _. refl) (λ _. refl),
    value Err utc.reading_refusal_of (instant_cases d m ++ utc.moment_cases (moment_of d m)) _ (handed_instants d m) utc.reading_day_or 0 (λ _ _. refl) (λ _. refl),
    value Err utc.reading_refusal_of (instant_cases d m ++ utc.moment_cases (moment_of d m)) _ (handed_instants d m) utc.reading_hour_or 0 (λ _ _. refl) (λ _. refl),
    value Err utc.reading_refusal_of (instant_cases d m ++ utc.moment_cases (moment_of d m)) _ (handed_instants d m) utc.reading_minute_or 0 (λ _ _. refl) (λ _. refl),
    value Err utc.reading_refusal_of (instant_cases d m ++ utc.moment_cases (moment_of d m)) _ (handed_instants d m) utc.reading_second_or 0 (λ _ _. refl) (λ _. refl),
    value Err utc.reading_refusal_of (instant_cases d m ++ utc.moment_cases (moment_of d m)) _ (handed_instants d m) utc.reading_microsecond_or 0 (λ _ _. refl) (λ _. refl),
  );
  rescue = rescue_refusal;
  rescue_zeroed = rescue_zeroed;
  rescue_keeps = rescue_keeps;
  angles = angles;
  angles_same = angles_same;
  angles_zeroed = angles_zeroed;
  angles_kept = angles_kept;
  compare = compare;
  compare_zeroed = compare_zeroed;
  compare_keeps = compare_keeps;
}
