-- Instants for phases: one moment in both scales.
use Rattle.std.specs.Prelude.{◌≡◌, refl, Result, Ok, Err}
use Rattle.instants.specs.declared.Instant.{Instant}
use Rattle.utc.specs.Conversions.{tt_of}
use Rattle.utc.specs.declared.Reading.{Reading}
use Rattle.instants.specs.declared.refusal.Refusal.{Refusal}

-- an instant for phases: a TT part and a UTC part that belong together, the instant being that of the reading
pub record PhaseInstant : Type 0 where
  pub tt : Instant
  pub utc : Reading
  pub together : tt_of utc ≡ Ok tt

-- by the answer x of the conversion: what is made of the instant for phases, or of the refusal
abbrev pub at_answer : {A : Type 0} → (Refusal → A) → (PhaseInstant → A) → (r : Reading) (x : Result Instant Refusal) → tt_of r ≡ x → A
at_answer refuse answer r (Ok t) e = answer (record { tt = t; utc = r; together = e })
at_answer refuse answer r (Err n) e = refuse n

-- what is made of a reading's own instant for phases, or of its refusal
abbrev pub at_phase : {A : Type 0} → (Refusal → A) → (PhaseInstant → A) → Reading → A
at_phase refuse answer r = at_answer refuse answer r (tt_of r) refl
