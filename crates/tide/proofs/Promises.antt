-- What is promised of the frequency and the phase. Beside a refusal both are +0; else the phase is reduced (Range), and the frequency is a sum of
-- bounded numbers (Sums). Assumes nothing.
use mathlib.Core.Path.{◌≡◌, refl, sym, ◌∙◌}
use mathlib.Core.Bool.{Bool, true, false, true≢false, not}
use mathlib.Core.List.{◌++◌}
use Prim.Native.Nat.{ℕ, ◌*◌, ◌≤◌, ◌<◌}
use native.Mathlib.Nat.{le_trans, le_of_eq, one-mul, mul-one, mul-le-mul_right, mul-pos}
use native.Mathlib.Omega.{arith}
use lib.Dec.{T, lit<}
use lib.IntN.{pos}
use lib.Ieee.{Float, nan, inf, fin, binary64, up, down, round, div, rem, lt, le, eq, of_int}
use lib.Ieee.Bits.{is_true}
use lib.Ieee.Exact.{HasValue}
use lib.Ieee.Fits.{down_pos}
use lib.Ieee.Back.{round_whole}
use lib.Ieee.Order.{round_mono}
use Rattle.instants.specs.Limits.{day_micros}
use Rattle.instants.specs.Refusals.{refused_or}
use Rattle.instants.proofs.Impossible.{impossible}
use Rattle.instants.proofs.FirstRefusal.{in_each}
use Rattle.utc.specs.Readings.{reading_index, reading_micros, reading_cases, AcceptedReading}
use Rattle.utc.specs.Conversions.{tt_at}
use Rattle.utc.specs.PhaseInstants.{PhaseInstant}
use Rattle.utc.specs.declared.Reading.{Reading}
use Rattle.utc.proofs.PhaseInstants.{at_both, in_cases, tt_of_phase, phase_instant_of, tt_is, utc_less, sixty_past_the_day}
use Rattle.tide.specs.declared.Doodson.{Doodson}
use Rattle.binary64.specs.Words.{◌⊘◌, whole, zero64}
use Rattle.tide.specs.Tidal.{day_fraction, centuries, arguments_of, arguments_at, sum_of_products, turn64, constituent_of, all_in_range, range_cases, answer_of, tide_of, frequency_of, phase_of, doodson}
use Rattle.binary64.specs.Reduction.{raised, settled, reduced}
use Rattle.binary64.specs.Claims.{Finite, InRange}
use Rattle.binary64.proofs.Bounded.{bound_finite}
use Rattle.binary64.proofs.Range.{IsPeriod, zero_in_range, reduced_in_range}
use Rattle.tide.proofs.Sums.{bounds_at}
use Rattle.std.specs.Prelude.{Result, Ok, Err}
use Rattle.instants.specs.declared.Instant.{Instant}
use Rattle.tide.specs.declared.Constituent.{Constituent}
use Rattle.instants.specs.declared.refusal.Refusal.{Refusal}

-- ---- the answer, as an equation

-- for any input: the refusals of the reading, then those of the multipliers, then the expression
pub in_full : (r : Reading) (k : Doodson) →
    let t = tt_at (reading_index r) (reading_micros r) in
    tide_of r k ≡ refused_or Err (reading_cases r ++ range_cases k) (Ok (constituent_of (arguments_of (day_fraction (reading_micros r)) (centuries t.day (day_fraction t.micros))) k))
unfolding tide_of answer_of arguments_at
in_full r k = in_cases Err (λ p. answer_of (arguments_at p) k) r _ (λ p e. rw (tt_is p, e) refl)

-- PROMISE. At an instant for phases, with multipliers in range, the answer is the expression: 360 f with the fraction of the UTC part, and all else with the
-- centuries of the TT part.
pub at_instant : (p : PhaseInstant) (k : Doodson) → T (all_in_range k)
    → tide_of p.utc k ≡ Ok (constituent_of (arguments_of (day_fraction (reading_micros p.utc)) (centuries p.tt.day (day_fraction p.tt.micros))) k)
unfolding tide_of answer_of arguments_at
at_instant p k h =
    at_both (λ (x : (Result Constituent Refusal)) (y : (Result Instant Refusal)). y ≡ Ok p.tt → x ≡ Ok (constituent_of (arguments_at p) k)) Err Err (λ q. answer_of (arguments_at q) k)
    (λ q. Ok q.tt) p.utc (λ n e. impossible (cc)) (λ q u e. let t : q.tt ≡ p.tt = cc in rw (is_true (all_in_range k) h, u, t) refl) (tt_of_phase p.utc ∙ p.together)

-- ---- what holds of every answer

-- it holds at every refusal, and of the numbers at every instant for phases with multipliers in range
module _ (P : Result Constituent Refusal → Type 0) (refused : (n : Refusal) → P (Err n)) (k : Doodson) where
  of_answers : ((p : PhaseInstant) → T (all_in_range k) → P (Ok (constituent_of (arguments_at p) k))) → (r : Reading) → P (tide_of r k)
  unfolding tide_of answer_of
  of_answers h r =
      at_both (λ (x y : (Result Constituent Refusal)). P x) Err Err answer answer r refused (λ p _. in_each Err P (range_cases k) _ refused (λ n. h p (right (all_in_range k) n.0)))
    where
      answer : PhaseInstant → Result Constituent Refusal
      answer p = answer_of (arguments_at p) k

      right : (b : Bool) → not b ≡ false → T b
      right true e = tt
      right false e = impossible (cc)

turn_is_period : IsPeriod turn64
unfolding turn64 of_int round
turn_is_period = (refl, lit< tt, refl)

-- PROMISE. For every input the phase is finite, at least 0 and below 360; on a refusal too.
pub phase_in_turn : (r : Reading) (k : Doodson) → InRange turn64 (phase_of (tide_of r k))
unfolding constituent_of
phase_in_turn r k =
    of_answers (λ (x : (Result Constituent Refusal)). InRange turn64 (phase_of x)) (λ n. zero_in_range turn64 turn_is_period) k
    (λ p _. let a = arguments_at p in reduced_in_range turn64 turn_is_period (sum_of_products k a.degrees)) r

-- PROMISE. For every input the frequency is finite.
pub frequency_finite : (r : Reading) (k : Doodson) → Finite (frequency_of (tide_of r k))
unfolding constituent_of
frequency_finite r k =
    of_answers (λ (x : (Result Constituent Refusal)). Finite (frequency_of x)) (λ n. tt) k
    (λ p h. let b = bounds_at p in bound_finite (b.cycles.most k h)) r

-- ---- six zeros
zero_reduced : reduced turn64 zero64 ≡ zero64
unfolding reduced raised settled turn64 of_int rem lt eq
zero_reduced = refl

-- PROMISE. At every accepted reading six zero multipliers give +0 and +0.
pub zeros_give_zero : (r : Reading) → AcceptedReading r
    → tide_of r (doodson (pos 0) (pos 0) (pos 0) (pos 0) (pos 0) (pos 0)) ≡ Ok (record { frequency = zero64; phase = zero64 })
unfolding all_in_range constituent_of arguments_at
zeros_give_zero r h =
    let p = phase_instant_of r h in
    let b = bounds_at p in
    at_instant p (doodson (pos 0) (pos 0) (pos 0) (pos 0) (pos 0) (pos 0)) tt
    ∙ rw (b.cycles.zero, b.degrees.zero, zero_reduced) refl

-- ---- second 60

-- a whole number of microseconds from a day's on, as a fraction of the day: its quotient is not below 1, and rounding keeps the order
quotient_from_one : (m : ℕ) (x : Float) → HasValue x false m 1 → day_micros ≤ m → T (le (whole (pos 1)) (x ⊘ whole (pos day_micros)))
unfolding div of_int
quotient_from_one m nan v h = absurd v
quotient_from_one m (inf s) v h = absurd v
quotient_from_one m (fin true n e) v h = absurd (true≢false v.0)
quotient_from_one m (fin false n e) v h =
    round_mono binary64 1 1 (n * up e * 1) (86_400_000_000 * down e) (lit< tt) (mul-pos (lit< tt) (down_pos e))
    (le_trans (le_of_eq (one-mul (86_400_000_000 * down e))) (le_trans (mul-le-mul_right (down e) h) (le_of_eq (sym (mul-one (n * up e * 1) ∙ v.1)))))

-- PROMISE. In second 60 the fraction of the day is 1 or more.
pub fraction_from_one : (p : PhaseInstant) → 59 < p.utc.second → T (le (whole (pos 1)) (day_fraction (reading_micros p.utc)))
unfolding day_fraction of_int
fraction_from_one p h =
    let m = reading_micros p.utc in
    quotient_from_one m (whole (pos m)) (round_whole binary64 false m (omega (arith, utc_less p))) (omega (arith, sixty_past_the_day p h))
