-- When a run is refused: what the tests of the code tell, one after the other, and what holds when none refuses. Assumes nothing.
use Prim.Native.Nat.{ℕ, ◌+◌, ◌-◌, ◌*◌, ◌/◌, ◌^◌, ◌≤◌, ◌<◌}
use mathlib.Core.Path.{◌≡◌, refl, ap, sym, ◌∙◌}
use mathlib.Core.Bool.{Bool, false}
use mathlib.Core.List.{[], ◌∷◌, ◌++◌}
use native.Mathlib.Nat.{mul-le-mul, mul-le-mul_right}
use native.Mathlib.Omega.{arith}
use lib.IntN.{ℤ}
use lib.Dec.{ltb}
use lib.Signed.{lt_z}
use borrow.Author.Tests.{ltb-false, le-ltb, lt-leb}
use Rattle.std.specs.Prelude.{Ok, Err}
use Rattle.instants.specs.declared.refusal.Refusal.{Refusal}
use Rattle.instants.specs.declared.refusal.Refusal.TheVariants.{Day, BufferShort}
use Rattle.instants.specs.Limits.{last_day, day_micros}
use Rattle.instants.specs.Instants.{day_index, instant_cases, acceptance, IsAccepted, later_day, later_micros}
use Rattle.instants.specs.Refusals.{case, refused_or, check, refusal_of}
use Rattle.instants.proofs.Impossible.{impossible}
use Rattle.instants.proofs.FirstRefusal.{none_both, first_checked, first_none, refused_alike, answered_none, none_answered}
use Rattle.instants.proofs.Accepted.{between, accepted_at, accepted_none, refused_too, answered_too}
use Rattle.record.specs.Format.{record_length}
use Rattle.run.specs.Run.{most_records, bad_count, bad_step, end_cases, run_cases, run_refusal}
use Rattle.instants.proofs.LaterInstants.{outside_later, past_earlier, later_accepted}

-- ---- the refusal of a run

-- the number of a run's refusal is that of its test
pub run_checked : (d : ℤ) (m count step n : ℕ) → refusal_of (check (run_cases d m count step n)) ≡ run_refusal d m count step n
unfolding run_refusal
run_checked d m count step n = first_checked (run_cases d m count step n)

-- a count and a step that are not refused
pub record Counted (count step : ℕ) : Type 0 where
  pub count_least : 1 ≤ count
  pub count_most : count ≤ most_records
  pub step_least : 1 ≤ step
  pub step_most : step ≤ day_micros

pub counted : (count step : ℕ) → bad_count count ≡ false → bad_step step ≡ false → Counted count step
counted count step h k =
    let p = between count 1 most_records h in
    let q = between step 1 day_micros k in
    record { count_least = p.0; count_most = p.1; step_least = q.0; step_most = q.1 }

-- an accepted start, by the index that was answered
pub start_accepted : (d : ℤ) (m i : ℕ) → acceptance d m ≡ Ok i → IsAccepted d m
start_accepted d m i e = e ∙ ap Ok (sym (accepted_at d m i e).index)

module _ (d : ℤ) (m count step n : ℕ) (h : Counted count step) where
  -- a count and a step that are not refused leave the start's cases and the end's
  at_start : check (run_cases d m count step n) ≡ check (instant_cases d m ++ end_cases d m count step n)
  at_start =
      simp (le-ltb count 1 h.count_least, le-ltb most_records count h.count_most, le-ltb step 1 h.step_least, le-ltb day_micros step h.step_most)

  -- then a start that is not accepted refuses the run
  pub refused_at_start : {r : Refusal} → acceptance d m ≡ Err r → Err r ≡ check (run_cases d m count step n)
  refused_at_start e = refused_too Err (check (end_cases d m count step n)) d m e ∙ sym at_start

  module _ (a : IsAccepted d m) where
    abbrev past : Bool
    past = lt_z last_day (later_day d m ((count - 1) * step))

    -- after an accepted start, the last instant and the buffer are tested
    pub refused_later : check (end_cases d m count step n) ≡ check (run_cases d m count step n)
    refused_later = answered_too Err (check (end_cases d m count step n)) d m a ∙ sym at_start

    -- the last instant is accepted unless it is past the last day
    last : acceptance (later_day d m ((count - 1) * step)) (later_micros m ((count - 1) * step))
        ≡ refused_or Err (case Day past ∷ []) (Ok (day_index (later_day d m ((count - 1) * step))))
    unfolding acceptance
    last =
        rw (
          outside_later d _ (accepted_at d m (day_index d) a).inside,
          lt-leb day_micros (later_micros m ((count - 1) * step)) (omega arith),
        )
        refl

    -- a last instant that is not accepted refuses the run
    pub refused_at_end : {r : Refusal} → acceptance (later_day d m ((count - 1) * step)) (later_micros m ((count - 1) * step)) ≡ Err r
        → Err r ≡ check (run_cases d m count step n)
    refused_at_end {r} e =
        sym (refused_alike Err Err (case Day past ∷ []) _ (check (case BufferShort (ltb n (record_length * count)) ∷ [])) r (λ k p. cc) (λ p. impossible (cc)) (sym last ∙ e))
        ∙ refused_later

    -- and after an accepted one the buffer is tested
    pub refused_short : {i : ℕ} → acceptance (later_day d m ((count - 1) * step)) (later_micros m ((count - 1) * step)) ≡ Ok i
        → (b : Bool) → ltb n (record_length * count) ≡ b → check (case BufferShort b ∷ []) ≡ check (run_cases d m count step n)
    refused_short {i} e b s =
        let k = answered_none Err (case Day past ∷ []) _ (Ok i) (λ n p. impossible (cc)) (sym last ∙ e) in
        ap (λ (x : Bool). check (case BufferShort x ∷ [])) (sym s) ∙ (sym (none_answered Err (case Day past ∷ []) _ k.0) ∙ refused_later)

-- What holds of a run that is not refused.
pub record NotRefused (d : ℤ) (m count step n : ℕ) : Type 0 where
  pub counted : Counted count step
  pub accepted : IsAccepted d m
  pub ends : lt_z last_day (later_day d m ((count - 1) * step)) ≡ false
  pub room : record_length * count ≤ n

pub not_refused : (d : ℤ) (m count step n : ℕ) → run_refusal d m count step n ≡ 0 → NotRefused d m count step n
unfolding run_refusal
not_refused d m count step n e =
    let r = first_none (run_cases d m count step n) e in
    let k = none_both (instant_cases d m) (end_cases d m count step n) r.1.1 in
    record {
      counted = counted count step r.0 r.1.0;
      accepted = accepted_none d m k.0;
      ends = k.1.0;
      room = ltb-false n (record_length * count) k.1.1.0;
    }

-- the steps of a run together are few enough that the sums fit
pub steps_few : (k step : ℕ) → k ≤ most_records → step ≤ day_micros → k * step < 2 ^ 62
steps_few k step h l = below (mul-le-mul h l)
  where
    below : k * step ≤ most_records * day_micros → k * step < 2 ^ 62
    below p = omega arith

-- Every instant of a run that is not refused is accepted.
pub run_accepted : (d : ℤ) (m count step n : ℕ) → run_refusal d m count step n ≡ 0 → (k : ℕ) → k < count → IsAccepted (later_day d m (k * step)) (later_micros m (k * step))
run_accepted d m count step n e k h =
    let r : NotRefused d m count step n = not_refused d m count step n e in
    let t : k * step ≤ (count - 1) * step = mul-le-mul_right step (omega arith) in
    later_accepted d m (k * step) r.accepted (past_earlier d _ _ (quotients (m + k * step) (m + (count - 1) * step) (omega arith)) r.ends)
  where
    quotients : (a b : ℕ) → a ≤ b → a / day_micros ≤ b / day_micros
    quotients a b h = omega arith
