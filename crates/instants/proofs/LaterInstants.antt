-- Later instants. A day number in range that some days are added to is above the first day, so that a later instant is accepted unless it is past the
-- last one; the sums of the code fit, since a day number in range is small; and days and microseconds together grow by what was added. Assumes nothing.
use Prim.Native.Nat.{ℕ, ◌+◌, ◌*◌, ◌/◌, ◌%◌, ◌^◌, ◌≤◌, ◌<◌}
use mathlib.Core.Path.{◌≡◌, refl, ap, ◌∙◌}
use mathlib.Core.Bool.{Bool, true, false}
use mathlib.Core.List.{[], ◌∷◌}
use native.Mathlib.Omega.{arith}
use lib.Dec.{T}
use lib.IntN.{ℤ, pos, neg_ℤ, ◌+ℤ◌, ◌-ℤ◌, ◌*ℤ◌, nat_abs}
use lib.Signed.{lt_z, lt_z_yes, lt_z_no, clash_ℤ}
use borrow.Author.Tests.{lt-leb}
use mir.Syntax.{w64}
use mir.Val.{SFits}
use Rattle.algebra.proofs.Order.{◌≼◌, ≼_refl, ≼_trans, ≼-add, le_plus, pos_le, abs_add}
use Rattle.algebra.proofs.Fits.{small_fits}
use Rattle.algebra.specs.Integers.{+◌}
use Rattle.algebra.proofs.Ring.{end, ◌▸◌, ring, quote}
use Rattle.instants.specs.Limits.{first_day, last_day, day_micros, index_offset}
use Rattle.instants.specs.Refusals.{case, first_refusal, refusal_of}
use Rattle.instants.specs.Instants.{outside, day_index, acceptance, IsAccepted, later_day, later_micros}
use Rattle.instants.specs.Moments.{since_j2000}
use Rattle.instants.proofs.Accepted.{both_false, AcceptedAt, accepted_at, accepted, acceptance_refusal}
use Rattle.instants.specs.declared.refusal.Refusal.TheVariants.{Day}

-- ---- the order of day numbers, as the tests have it

not_less : (a b : ℤ) → b ≼ a → lt_z a b ≡ false
not_less a b h = by (lt_z a b) (λ t. clash_ℤ (lt_z_yes t) h)
  where
    by : (t : Bool) → (T t → ⊥) → t ≡ false
    by true n = absurd (n tt)
    by false n = refl

at_least : (a b : ℤ) → lt_z a b ≡ false → b ≼ a
at_least a b e = lt_z_no (rw e tt)

-- a day number in range, and a later one: it is outside exactly when it is past the last day
pub outside_later : (d : ℤ) (q : ℕ) → outside d ≡ false → outside (d +ℤ pos q) ≡ lt_z last_day (d +ℤ pos q)
unfolding outside
outside_later d q o = rw (not_less (d +ℤ pos q) first_day (≼_trans (at_least d first_day (both_false (lt_z d first_day) _ o).0) (le_plus d q)))

-- what is before a day that is not past the last one is not past it either
pub past_earlier : (d : ℤ) (p q : ℕ) → p ≤ q → lt_z last_day (d +ℤ pos q) ≡ false → lt_z last_day (d +ℤ pos p) ≡ false
past_earlier d p q h e = not_less last_day (d +ℤ pos p) (≼_trans (≼-add (≼_refl d) (pos_le h)) (at_least last_day (d +ℤ pos q) e))

-- ---- later instants

size : (d : ℤ) (i : ℕ) → d ≡ pos i -ℤ pos index_offset → nat_abs d ≤ i + index_offset
size d i e = rw e (abs_add (pos i) (neg_ℤ (pos index_offset)))

module _ (d : ℤ) (m t : ℕ) (a : IsAccepted d m) where
  inside : AcceptedAt d m (day_index d)
  inside = accepted_at d m (day_index d) a

  -- a later instant is accepted unless it is past the last day
  pub later_accepted : lt_z last_day (later_day d m t) ≡ false → IsAccepted (later_day d m t) (later_micros m t)
  later_accepted e = accepted _ _ (outside_later d _ inside.inside ∙ e) (omega arith)

  -- the sums of the code fit
  pub sum_fits : t < 2 ^ 62 → m + t < 2 ^ 63
  sum_fits h = omega (arith, inside.less)

  pub day_fits : t < 2 ^ 62 → SFits w64 (later_day d m t)
  day_fits h =
      let s : m + t < 2 ^ 63 = sum_fits h in
      let n : nat_abs d ≤ day_index d + index_offset = size d (day_index d) inside.is in
      small_fits (later_day d m t) (omega (arith, abs_add d (pos ((m + t) / day_micros)), inside.high))

-- an instant after an accepted one is refused by 8 when it is past the last day, and by nothing else
pub later_refusal : (d : ℤ) (m t : ℕ) → IsAccepted d m
    → refusal_of (acceptance (later_day d m t) (later_micros m t)) ≡ first_refusal (case Day (lt_z last_day (later_day d m t)) ∷ [])
later_refusal d m t a =
    acceptance_refusal (later_day d m t) (later_micros m t)
    ∙ rw (outside_later d _ (accepted_at d m (day_index d) a).inside, lt-leb day_micros (later_micros m t) (omega arith)) refl

-- ---- how much later

-- PROMISE. The instant t microseconds after another is t microseconds later, and its microseconds are those of a day.
pub later_by : (d : ℤ) (m t : ℕ) → (since_j2000 (later_day d m t) (later_micros m t) ≡ since_j2000 d m +ℤ + t) × (later_micros m t < day_micros)
later_by d m t = (moved d (+ ((m + t) / day_micros)) (+ 51544) (+ day_micros) (+ later_micros m t) (+ 43_200_000_000) (+ m) (+ t) sum, omega arith)
  where
    whole : (x : ℕ) → x / day_micros * day_micros + x % day_micros ≡ x
    whole x = omega arith

    sum : + ((m + t) / day_micros) *ℤ + day_micros +ℤ + later_micros m t ≡ + m +ℤ + t
    sum = ap pos (whole (m + t))

    left : (d q c n r h : ℤ) → (d +ℤ q -ℤ c) *ℤ n +ℤ r -ℤ h ≡ (d -ℤ c) *ℤ n -ℤ h +ℤ (q *ℤ n +ℤ r)
    left d q c n r h = ring (d ▸ q ▸ c ▸ n ▸ r ▸ h ▸ end) (search quote depth 13) tt

    right : (d c n h m t : ℤ) → (d -ℤ c) *ℤ n -ℤ h +ℤ (m +ℤ t) ≡ (d -ℤ c) *ℤ n +ℤ m -ℤ h +ℤ t
    right d c n h m t = ring (d ▸ c ▸ n ▸ h ▸ m ▸ t ▸ end) (search quote depth 13) tt

    moved : (d q c n r h m t : ℤ) → q *ℤ n +ℤ r ≡ m +ℤ t → (d +ℤ q -ℤ c) *ℤ n +ℤ r -ℤ h ≡ (d -ℤ c) *ℤ n +ℤ m -ℤ h +ℤ t
    moved d q c n r h m t e = left d q c n r h ∙ (ap (λ (z : ℤ). (d -ℤ c) *ℤ n -ℤ h +ℤ z) e ∙ right d c n h m t)
