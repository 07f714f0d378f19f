-- Instants for phases. What is made of a reading is made of its one instant for phases, or is the reading's refusal: by the instant that the reading has,
-- or has not. Assumes nothing.
use Prim.Native.Nat.{◌<◌, ◌+◌}
use mathlib.Core.Path.{◌≡◌, refl, sym, ◌∙◌}
use Rattle.instants.specs.Limits.{day_micros}
use Rattle.instants.specs.Refusals.{refused_or}
use Rattle.instants.specs.Instants.{IsAccepted}
use Rattle.instants.proofs.FirstRefusal.{none_answered, refused_alike}
use Rattle.instants.proofs.Impossible.{impossible}
use Rattle.calendar.specs.Limits.{second_micros}
use Rattle.utc.specs.Readings.{reading_index, reading_micros, reading_cases, AcceptedReading}
use Rattle.utc.specs.Conversions.{tt_at, tt_of}
use Rattle.utc.specs.PhaseInstants.{PhaseInstant, at_answer, at_phase}
use Rattle.utc.specs.Inner.{parts_of, Together, phase_by, phase_answer}
use Rattle.utc.specs.declared.Reading.{Reading}
use Rattle.utc.specs.declared.PhaseParts.{PhaseParts}
use Rattle.utc.proofs.Readings.{held_none, held_less, sixty_micros}
use Rattle.utc.proofs.Inverse.{answered_held}
use Rattle.utc.proofs.Unique.{accepted_answered, answered_accepted, tt_accepted}
use Rattle.std.specs.Prelude.{Result, Ok, Err}
use Rattle.instants.specs.declared.Instant.{Instant}
use Rattle.instants.specs.declared.refusal.Refusal.{Refusal}

-- The case analysis behind the laws below: what holds of two answers at every refusal, and at the instant for phases of the reading.
pub at_both : {A B : Type 0} (P : A → B → Type 0) (refuse : Refusal → A) (refuse' : Refusal → B) (answer : PhaseInstant → A) (answer' : PhaseInstant → B) (r : Reading)
    → ((n : Refusal) → P (refuse n) (refuse' n)) → ((p : PhaseInstant) → p.utc ≡ r → P (answer p) (answer' p)) → P (at_phase refuse answer r) (at_phase refuse' answer' r)
at_both P refuse refuse' answer answer' r h k = by (tt_of r) refl
  where
    by : (x : Result Instant Refusal) (e : tt_of r ≡ x) → P (at_answer refuse answer r x e) (at_answer refuse' answer' r x e)
    by (Ok t) e = k (record { tt = t; utc = r; together = e }) refl
    by (Err n) e = h n

-- the TT part is what the reading has
pub tt_of_phase : (r : Reading) → at_phase Err (λ p. Ok p.tt) r ≡ tt_of r
tt_of_phase r = by (tt_of r) refl
  where
    by : (x : Result Instant Refusal) (e : tt_of r ≡ x) → at_answer Err (λ p. Ok p.tt) r x e ≡ tt_of r
    by (Ok t) e = sym e
    by (Err n) e = sym e

-- a reading without an instant is refused by its number
refused_too : {A : Type 0} (refuse : Refusal → A) (r : Reading) (a : A) (n : Refusal) → tt_of r ≡ Err n → refused_or refuse (reading_cases r) a ≡ refuse n
unfolding tt_of
refused_too refuse r a n e = refused_alike Err refuse (reading_cases r) (Ok (tt_at (reading_index r) (reading_micros r))) a n (λ k p. cc) (λ p. impossible (cc)) e

-- an answer that does not depend on how the instant was come by, behind the cases of the reading
pub in_cases : {A : Type 0} (refuse : Refusal → A) (answer : PhaseInstant → A) (r : Reading) (a : A) → ((p : PhaseInstant) → p.utc ≡ r → answer p ≡ a)
    → at_phase refuse answer r ≡ refused_or refuse (reading_cases r) a
in_cases {A} refuse answer r a h = by (tt_of r) refl
  where
    by : (x : Result Instant Refusal) (e : tt_of r ≡ x) → at_answer refuse answer r x e ≡ refused_or refuse (reading_cases r) a
    by (Ok t) e = h (record { tt = t; utc = r; together = e }) refl ∙ sym (none_answered refuse (reading_cases r) a (held_none r (answered_held r t e).0))
    by (Err n) e = sym (refused_too refuse r a n e)

-- ---- its parts

-- PROMISE. The UTC part of an instant for phases is accepted, and its TT part is the instant of that reading, and accepted.
pub parts_accepted : (p : PhaseInstant) → AcceptedReading p.utc × (tt_of p.utc ≡ Ok p.tt) × IsAccepted p.tt.day p.tt.micros
parts_accepted p = (answered_accepted p.utc p.tt p.together, p.together, tt_accepted p.utc p.tt p.together)

-- that of an accepted reading
abbrev pub phase_instant_of : (r : Reading) → AcceptedReading r → PhaseInstant
phase_instant_of r h = record { tt = tt_at (reading_index r) (reading_micros r); utc = r; together = accepted_answered r h }

-- PROMISE. Every accepted reading has an instant for phases.
pub accepted_phase : (r : Reading) → AcceptedReading r → (p : PhaseInstant) × (p.utc ≡ r)
accepted_phase r h = (phase_instant_of r h, refl)

-- the TT part, from the reading
pub tt_is : (p : PhaseInstant) → p.tt ≡ tt_at (reading_index p.utc) (reading_micros p.utc)
tt_is p = sym (answered_held p.utc p.tt p.together).1

-- the microseconds of the UTC part are fewer than those of a day and a second
pub utc_less : (p : PhaseInstant) → reading_micros p.utc < day_micros + second_micros
utc_less p = (held_less p.utc (answered_held p.utc p.tt p.together).0).1

-- PROMISE. In second 60 they are those of a whole day, and the reading's own microseconds.
pub sixty_past_the_day : (p : PhaseInstant) → 59 < p.utc.second → reading_micros p.utc ≡ day_micros + p.utc.microsecond
sixty_past_the_day p = sixty_micros p.utc (answered_held p.utc p.tt p.together).0

-- what holds of the parts of an instant for phases, said of parts that belong together
pub together_accepted : (x : PhaseParts) → Together x → IsAccepted x.tt.day x.tt.micros × (x.utc.micros < day_micros + second_micros)
together_accepted x t = rw t.are ((parts_accepted t.at).2, utc_less t.at)

-- the parts are those of the reading's instant for phases
pub phase_is : (r : Reading) → at_phase Err (λ p. Ok (parts_of p)) r ≡ phase_answer r
unfolding phase_answer
phase_is r = by (tt_of r) refl
  where
    by : (x : Result Instant Refusal) (e : tt_of r ≡ x) → at_answer Err (λ p. Ok (parts_of p)) r x e ≡ phase_by r x
    by (Ok t) e = refl
    by (Err n) e = refl

-- a reading whose answer is given has parts that belong together
pub answer_together : (r : Reading) (x : PhaseParts) → phase_answer r ≡ Ok x → Together x
answer_together r x h =
    at_both (λ (a b : Result PhaseParts Refusal). a ≡ Ok x → Together x) Err Err (λ p. Ok (parts_of p)) (λ p. Ok (parts_of p)) r (λ n e. impossible (cc))
    (λ p _ e. record { at = p; are = cc }) (phase_is r ∙ h)
