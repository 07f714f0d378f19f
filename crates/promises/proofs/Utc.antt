-- The refusals of UTC readings, of phases, and of instants out of the list's reach, in the figures of specs/AnyInput.antt: where the cases before them do not apply,
-- dates in their order have rising indices, and days with their microseconds rising moments. Assumes nothing.
use Prim.Native.Nat.{ℕ, ◌≤◌}
use mathlib.Core.Path.{◌≡◌, refl, ◌∙◌, ap}
use mathlib.Core.Bool.{Bool, true, false, cond, not, ◌&&◌}
use mathlib.Core.List.{List, [], ◌∷◌, ◌++◌}
use native.Mathlib.Omega.{arith}
use native.Mathlib.Decide.{dec_le}
use lib.Dec.{T, ltb, leb}
use lib.IntN.{ℤ, pos}
use borrow.Author.Tests.{lt-ltb, le-ltb, le-leb, lt-leb}
use Rattle.instants.specs.Refusals as named
use Rattle.instants.specs.Refusals.{number}
use Rattle.promises.specs.Figures.{Case, first_refusal}
use Rattle.promises.proofs.Figures as figure
use Rattle.instants.specs.Instants.{outside, day_index, instant_cases, IsAccepted}
use Rattle.instants.specs.Moments.{moment_of}
use Rattle.instants.proofs.FirstRefusal.{handed_on}
use Rattle.instants.proofs.Accepted.{AcceptedAt, none_accepted, accepted}
use Rattle.instants.proofs.Order.{moment_order}
use Rattle.calendar.specs.Dates.{date, leap_year, month_lengths, sum, month_length, year_length, days_of_years, days_before, date_index, date_cases}
use Rattle.calendar.specs.Times.{time_cases, instant_refusal_of}
use Rattle.calendar.proofs.Dates.{Valid}
use Rattle.calendar.proofs.Inverse.{none_date, valid}
use Rattle.calendar.proofs.Order.{earlier_index}
use Rattle.utc.specs.Table.{first_step, later_steps, expiry}
use Rattle.utc.specs.Readings.{reading_index, last_second, cover_cases, reading_cases}
use Rattle.utc.specs.Conversions.{tt_of, moment_cases, utc_of, reading_refusal_of}
use Rattle.utc.specs.declared.Reading.{Reading}
use Rattle.utc.proofs.Days.{first_begins, expiry_begins}
use Rattle.utc.specs.Claims.{eve_of, eves_of}
use Rattle.utc.proofs.Eves.{has_second_60}
use Rattle.tide.specs.Tidal.{all_in_range, range_cases, tide_of, tide_refusal_of}
use Rattle.tide.specs.declared.Doodson.{Doodson}
use Rattle.tide.proofs.Promises.{in_full}
use Rattle.promises.specs.AnyInput.{in_range, refusal4, refusal5, refusal6_utc, refusal7, refusal11, refusal19_utc, refusal20_utc, reading_refusals, refusal19_tt, refusal20_tt, days_with_second60}
use Rattle.std.specs.Prelude.{Err}

-- PROMISE. The 27 days of the figures are the days before the steps after the first.
pub eves : T (eves_of days_with_second60 later_steps)
unfolding eves_of eve_of days_with_second60 later_steps month_length date_index days_of_years days_before year_length sum month_lengths leap_year
eves = tt

-- "at or after" is "not before"
turned : (a b : ℕ) → leb a b ≡ not (ltb b a)
turned a b = by (dec_le a b)
  where
    by : Dec (a ≤ b) → leb a b ≡ not (ltb b a)
    by (yes p) = rw (le-leb a b p, le-ltb b a p) refl
    by (no p) = rw (lt-leb a b (omega (arith, p)), lt-ltb b a (omega (arith, p))) refl

-- ---- a reading

first_valid : Valid first_step.from
unfolding first_step month_length month_lengths leap_year
first_valid = record { late = omega arith; one = omega arith; twelve = omega arith; first = omega arith; last = omega arith }

expiry_valid : Valid expiry
unfolding month_length month_lengths leap_year
expiry_valid = record { late = omega arith; one = omega arith; twelve = omega arith; first = omega arith; last = omega arith }

module _ (r : Reading) where
  -- what is behind the date's cases: of the definition, and in figures
  abbrev ours : List named.Case
  ours = time_cases (last_second (reading_index r) r.hour r.minute) r.hour r.minute r.second r.microsecond ++ cover_cases (reading_index r)

  abbrev figures : List Case
  figures =
      refusal4 r.hour ∷ refusal5 r.minute ∷ refusal6_utc r.year r.month r.day r.hour r.minute r.second ∷ refusal7 r.microsecond
      ∷ refusal19_utc r.year r.month r.day ∷ refusal20_utc r.year r.month r.day ∷ []

  -- whatever stands behind both
  behind : Valid (date r.year r.month r.day) → (es : List named.Case) (fs : List Case) → named.first_refusal es ≡ first_refusal fs
      → named.first_refusal (ours ++ es) ≡ first_refusal (figures ++ fs)
  unfolding first_step number
  behind v es fs e = rw (e, has_second_60 days_with_second60 eves _ v, earlier_index _ first_step.from v first_valid, turned (date_index expiry) (reading_index r), earlier_index _ expiry v expiry_valid) refl

  in_figures : (es : List named.Case) (fs : List Case) → named.first_refusal es ≡ first_refusal fs → named.first_refusal (reading_cases r ++ es) ≡ first_refusal (reading_refusals r ++ fs)
  unfolding number
  in_figures es fs e = figure.in_figures (date_cases r.year r.month r.day) (ours ++ es) (figures ++ fs) (λ n. behind (valid _ _ _ (none_date _ _ _ n)) es fs e)

  pub handed_readings : instant_refusal_of (tt_of r) ≡ named.first_refusal (reading_cases r)
  unfolding tt_of
  handed_readings = handed_on Err instant_refusal_of (λ n. refl) (reading_cases r) _

  pub utc_to_tt : instant_refusal_of (tt_of r) ≡ first_refusal (reading_refusals r)
  utc_to_tt = handed_readings ∙ in_figures [] [] refl

  -- six tests are one, from either end
  six : (a b c d e f : Bool) → (a && (b && (c && (d && (e && (f && true)))))) ≡ (((((a && b) && c) && d) && e) && f)
  six false b c d e f = refl
  six true false c d e f = refl
  six true true false d e f = refl
  six true true true false e f = refl
  six true true true true false f = refl
  six true true true true true false = refl
  six true true true true true true = refl

  -- the multipliers of a phase
  multipliers : (k : Doodson) → named.first_refusal (range_cases k) ≡ first_refusal (refusal11 k ∷ [])
  unfolding all_in_range number
  multipliers k = ap (λ (b : Bool). cond (not b) 11 0) (six (in_range k.k1) (in_range k.k2) (in_range k.k3) (in_range k.k4) (in_range k.k5) (in_range k.k6))

  -- a phase
  pub phase : (k : Doodson) → tide_refusal_of (tide_of r k) ≡ first_refusal (reading_refusals r ++ (refusal11 k ∷ []))
  phase k = ap tide_refusal_of (in_full r k) ∙ handed_on Err tide_refusal_of (λ n. refl) (reading_cases r ++ range_cases k) _ ∙ in_figures (range_cases k) (refusal11 k ∷ []) (multipliers k)

-- ---- an instant

-- the limits are accepted instants
first_accepted : IsAccepted (pos 41317) 42_184_000
unfolding outside
first_accepted = accepted (pos 41317) 42_184_000 refl (omega arith)

expiry_accepted : IsAccepted (pos 60854) 69_184_000
unfolding outside
expiry_accepted = accepted (pos 60854) 69_184_000 refl (omega arith)

module _ (d : ℤ) (m : ℕ) where
  -- what is behind the instant's cases, in figures
  covered : AcceptedAt d m (day_index d) → named.first_refusal (moment_cases (moment_of d m)) ≡ first_refusal (refusal19_tt d m ∷ refusal20_tt d m ∷ [])
  unfolding day_index number
  covered k =
      let a = accepted d m k.inside k.less in
      rw (first_begins, expiry_begins, turned 16_583_140_869_184_000 (moment_of d m), moment_order d m (pos 41317) 42_184_000 a first_accepted, moment_order d m (pos 60854) 69_184_000 a expiry_accepted) refl

  pub handed_instants : reading_refusal_of (utc_of d m) ≡ named.first_refusal (instant_cases d m ++ moment_cases (moment_of d m))
  unfolding utc_of
  handed_instants = handed_on Err reading_refusal_of (λ n. refl) (instant_cases d m ++ moment_cases (moment_of d m)) _

  pub tt_to_utc : reading_refusal_of (utc_of d m) ≡ first_refusal (figure.figures (instant_cases d m) ++ (refusal19_tt d m ∷ refusal20_tt d m ∷ []))
  unfolding number
  tt_to_utc = handed_instants ∙ figure.in_figures (instant_cases d m) (moment_cases (moment_of d m)) (refusal19_tt d m ∷ refusal20_tt d m ∷ []) (λ n. covered (none_accepted d m n))
