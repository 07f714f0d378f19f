-- One reading for one instant: what the two ways say together. Assumes nothing.
use Prim.Native.Nat.{ℕ}
use mathlib.Core.Path.{◌≡◌, refl, sym, ◌∙◌, ap}
use mathlib.Core.Bool.{Bool, true, false}
use mathlib.Core.List.{◌++◌}
use mathlib.Core.Logic.{◌⊎◌, inl, inr}
use lib.Dec.{ltb, leb}
use lib.IntN.{ℤ}
use Rattle.instants.specs.Refusals.{number}
use Rattle.instants.specs.Instants.{instant, day_index, instant_cases, IsAccepted}
use Rattle.instants.specs.Moments.{moment_of}
use Rattle.instants.specs.declared.Instant.{Instant}
use Rattle.instants.proofs.FirstRefusal.{none_both, none_answered, answered_none, first_none}
use Rattle.instants.proofs.Impossible.{impossible}
use Rattle.instants.proofs.Accepted.{AcceptedAt, accepted_at, accepted_none}
use Rattle.calendar.specs.Dates.{date_index}
use Rattle.utc.specs.Table.{first_step, expiry}
use Rattle.utc.specs.Readings.{reading_index, reading_micros, reading_cases, AcceptedReading}
use Rattle.utc.specs.Conversions.{tt_at, tt_of, day_begins, moment_cases, reading_on, utc_of, reading_refusal_of}
use Rattle.utc.specs.declared.Reading.{Reading}
use Rattle.utc.proofs.Readings.{held_none}
use Rattle.utc.proofs.Inverse.{answered_held, reading_there_and_back, instant_there_and_back}
use Rattle.std.specs.Prelude.{Ok, Err}
use Rattle.instants.specs.declared.refusal.Refusal.TheVariants.{UtcEarly, UtcExpired}

-- ---- accepted readings are those that have an instant

-- PROMISE. An accepted reading has an instant.
pub accepted_answered : (r : Reading) → AcceptedReading r → tt_of r ≡ Ok (tt_at (reading_index r) (reading_micros r))
unfolding tt_of
accepted_answered r e = none_answered Err (reading_cases r) _ (first_none (reading_cases r) e)

-- PROMISE. A reading that has one is accepted.
pub answered_accepted : (r : Reading) (t : Instant) → tt_of r ≡ Ok t → AcceptedReading r
answered_accepted r t e = none_answered number (reading_cases r) 0 (held_none r (answered_held r t e).0)

-- PROMISE. The instant is accepted.
pub tt_accepted : (r : Reading) (t : Instant) → tt_of r ≡ Ok t → IsAccepted t.day t.micros
unfolding utc_of
tt_accepted r t e =
    let cs = instant_cases t.day t.micros in
    let ms = moment_cases (moment_of t.day t.micros) in
    let a = answered_none Err (cs ++ ms) _ (Ok r) (λ n p. impossible (cc)) (reading_there_and_back r t e) in
    accepted_none t.day t.micros (none_both cs ms a.0).0

-- ---- one reading for one instant

-- PROMISE. Two accepted readings with one instant are the same reading.
pub one_reading : (r q : Reading) (t : Instant) → tt_of r ≡ Ok t → tt_of q ≡ Ok t → r ≡ q
one_reading r q t e f = let g : Ok r ≡ Ok q = sym (reading_there_and_back r t e) ∙ reading_there_and_back q t f in cc

-- PROMISE. A refused instant is no reading's.
pub refused_unread : (d : ℤ) (m : ℕ) → (reading_refusal_of (utc_of d m) ≡ 0 → ⊥) → (r : Reading) → tt_of r ≡ Ok (instant d m) → ⊥
refused_unread d m h r e = h (ap reading_refusal_of (reading_there_and_back r (instant d m) e))

-- PROMISE. An accepted instant that is no reading's is refused, by 19 or 20.
pub unread_refused : (d : ℤ) (m : ℕ) → IsAccepted d m → ((r : Reading) → tt_of r ≡ Ok (instant d m) → ⊥) → (utc_of d m ≡ Err UtcEarly) ⊎ (utc_of d m ≡ Err UtcExpired)
unfolding utc_of
unread_refused d m a h = by (ltb x first) (leb last x) refl refl
  where
    x : ℕ
    x = moment_of d m

    first : ℕ
    first = day_begins (date_index first_step.from)

    last : ℕ
    last = day_begins (date_index expiry)

    k : AcceptedAt d m (day_index d)
    k = accepted_at d m (day_index d) a

    by : (p q : Bool) → ltb x first ≡ p → leb last x ≡ q → (utc_of d m ≡ Err UtcEarly) ⊎ (utc_of d m ≡ Err UtcExpired)
    by true q f g = inl (rw (k.inside, k.within, f) refl)
    by false true f g = inr (rw (k.inside, k.within, f, g) refl)
    by false false f g = absurd (h (reading_on (day_index d) x) (instant_there_and_back d m (reading_on (day_index d) x) (rw (k.inside, k.within, f, g) refl)))
