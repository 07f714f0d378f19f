-- The rule, written out: more steps than there are bytes left change nothing, so a walk from a place is a step and the walk from the next place.
-- Assumes nothing.
use Prim.Native.Nat.{ℕ, zero, suc, ◌+◌, ◌-◌, ◌<◌, ◌≤◌}
use mathlib.Core.Path.{◌≡◌, refl, ap, ap₂, sym, subst, ◌∙◌}
use mathlib.Core.Bool.{Bool, true, false, cond, true≢false}
use mathlib.Core.List.{List}
use native.Mathlib.Omega.{arith}
use native.Mathlib.Decide.{dec_lt}
use lib.Dec.{ltb}
use lib.ListN.{length, drop, length-drop}
use borrow.Author.Tests.{lt-ltb, le-ltb}
use Rattle.record.specs.Format.{record_length}
use Rattle.record.specs.Records.{read_of, is_record}
use Rattle.record.proofs.Forms.{was_read}
use Rattle.rescue.specs.Walk.{Walk, has_record, ended, keeping, passing, stepping, walk_from}
use Rattle.std.specs.Prelude.{Result, Ok, Err}
use Rattle.record.specs.declared.Record.{Record}
use Rattle.instants.specs.declared.refusal.Refusal.{Refusal}

-- ---- a record takes thirty bytes

-- bytes that read are thirty or more
long_enough : (s : List ℕ) → is_record (read_of s) ≡ true → record_length ≤ length s
long_enough s e = by (read_of s) refl e
  where
    by : (a : (Result Record Refusal)) → read_of s ≡ a → is_record a ≡ true → record_length ≤ length s
    by (Ok r) q e = (was_read s r q).form.long
    by (Err n) q e = absurd (true≢false (sym e))

pub record_within : (s : List ℕ) (i : ℕ) → has_record s i ≡ true → i + record_length ≤ length s
record_within s i e = omega (arith, long_enough (drop i s) e, length-drop i s)

-- ---- a step

-- one step, before whatever comes behind it
abbrev step : List ℕ → ℕ → (behind next : Walk) → Walk
step s i behind next = cond (ltb i (length s)) (cond (has_record s i) (keeping i behind) (passing i next)) ended

at_end_lem : (k : ℕ) (s : List ℕ) (i : ℕ) → length s ≤ i → stepping k s i ≡ ended
unfolding stepping
at_end_lem zero s i h = refl
at_end_lem (suc k) s i h = rw (le-ltb i (length s) h) refl

-- enough steps are enough
enough : (k l : ℕ) (s : List ℕ) (i : ℕ) → length s - i ≤ k → length s - i ≤ l → stepping k s i ≡ stepping l s i
unfolding stepping
enough zero l s i h g = sym (at_end_lem l s i (omega arith))
enough (suc k) zero s i h g = at_end_lem (suc k) s i (omega arith)
enough (suc k) (suc l) s i h g =
    ap₂ (step s i) (enough k l s (i + record_length) (omega arith) (omega arith)) (enough k l s (i + 1) (omega arith) (omega arith))

-- a walk is a step and the walk from the next place
one_step : (s : List ℕ) (i : ℕ) → i < length s → walk_from s i ≡ step s i (walk_from s (i + record_length)) (walk_from s (i + 1))
unfolding walk_from stepping
one_step s i h =
    let k : ℕ = length s - i - 1 in
    let e : length s - i ≡ suc k = omega arith in
    ap (λ (n : ℕ). stepping n s i) e
    ∙ (more k
    ∙ ap₂ (step s i) (enough k (length s - (i + record_length)) s (i + record_length) (omega arith) (omega arith)) (enough k (length s - (i + 1)) s (i + 1) (omega arith) (omega arith)))
  where
    more : (k : ℕ) → stepping (suc k) s i ≡ step s i (stepping k s (i + record_length)) (stepping k s (i + 1))
    more k = refl

-- PROMISE. At the end and behind it the walk has ended.
pub walk_ends : (s : List ℕ) (i : ℕ) → length s ≤ i → walk_from s i ≡ ended
unfolding walk_from
walk_ends s i h = at_end_lem (length s - i) s i h

-- PROMISE. Where the next thirty bytes read as a record, it is kept and the walk goes on behind it.
pub walk_keeps : (s : List ℕ) (i : ℕ) → has_record s i ≡ true → walk_from s i ≡ keeping i (walk_from s (i + record_length))
walk_keeps s i e =
    let h : i < length s = omega (arith, record_within s i e) in
    one_step s i h ∙ rw (lt-ltb i (length s) h, e) refl

-- PROMISE. Where they do not, one byte is passed.
pub walk_passes : (s : List ℕ) (i : ℕ) → i < length s → has_record s i ≡ false → walk_from s i ≡ passing i (walk_from s (i + 1))
walk_passes s i h e = one_step s i h ∙ rw (lt-ltb i (length s) h, e) refl

-- ---- the rule, by cases

-- what holds at the end, and of a step where it holds of what is behind the step, holds of every walk
module _ (P : ℕ → Walk → Type 0) (s : List ℕ)
    (end : (i : ℕ) → length s ≤ i → P i ended)
    (keep : (i : ℕ) (w : Walk) → has_record s i ≡ true → i + record_length ≤ length s → P (i + record_length) w → P i (keeping i w))
    (pass : (i : ℕ) (w : Walk) → has_record s i ≡ false → i < length s → P (i + 1) w → P i (passing i w)) where
  at_place : (i : ℕ) → ((j : ℕ) → i < j → P j (walk_from s j)) → Dec (i < length s) → P i (walk_from s i)
  at_place i on (no l) = subst (P i) (sym (walk_ends s i (omega (arith, l)))) (end i (omega (arith, l)))
  at_place i on (yes l) = by (has_record s i) refl
    where
      by : (b : Bool) → has_record s i ≡ b → P i (walk_from s i)
      by true e = subst (P i) (sym (walk_keeps s i e)) (keep i (walk_from s (i + record_length)) e (record_within s i e) (on (i + record_length) (omega arith)))
      by false e = subst (P i) (sym (walk_passes s i l e)) (pass i (walk_from s (i + 1)) e l (on (i + 1) (omega arith)))

  from : (k i : ℕ) → length s ≤ i + k → P i (walk_from s i)
  from zero i h = at_place i (λ j l. subst (P j) (sym (walk_ends s j (omega arith))) (end j (omega arith))) (dec_lt i (length s))
  from (suc k) i h = at_place i (λ j l. from k j (omega arith)) (dec_lt i (length s))

  pub walk_case : (i : ℕ) → P i (walk_from s i)
  walk_case i = from (length s) i (omega arith)
