-- The rules of docs/RULES.md for the frequency and phase of a tidal constituent, in their order.
-- Derived from the IERS routine TDFRPH; not IERS Conventions software (NOTICE, docs/DIFFERENCES.md).
use Rattle.std.specs.Prelude.{ℕ, Bool, not, ◌&&◌, List, [], ◌∷◌, map, fold, ℤ, pos, neg_ℤ, Float, Result, Ok, Err}
use Rattle.std.specs.List.{zip, list_all}
use Rattle.std.specs.Int.Signed.{le_z}
use Rattle.std.specs.Float.Ieee.{neg}
use Rattle.instants.specs.Refusals.{Case, case, refused_or, refusal_of}
use Rattle.utc.specs.Readings.{reading_micros}
use Rattle.utc.specs.PhaseInstants.{PhaseInstant, at_phase}
use Rattle.utc.specs.declared.Reading.{Reading}
use Rattle.binary64.specs.Words.{◌⊕◌, ◌⊖◌, ◌⊗◌, ◌⊘◌, whole, zero64, plus}
use Rattle.binary64.specs.Reduction.{reduced}
use Rattle.tide.specs.Delaunay.{F1, F2, F3, F4, F5, FD1, FD2, FD3, FD4, FD5}
use Rattle.tide.specs.declared.Doodson.{Doodson}
use Rattle.tide.specs.declared.Arguments.{Arguments}
use Rattle.tide.specs.declared.Constituent.{Constituent}
use Rattle.instants.specs.declared.refusal.Refusal.{Refusal}
use Rattle.instants.specs.declared.refusal.Refusal.TheVariants.{Multiplier}

-- f, the fraction of the day after m microseconds: m / 86400000000
unfoldable pub day_fraction : ℕ → Float
day_fraction m = whole (pos m) ⊘ whole (pos 86_400_000_000)

-- t, the Julian centuries from J2000.0 at the fraction f of day d: (((d - 51544) - 0.5) + f) / 36525
unfoldable pub centuries : (d : ℤ) (f : Float) → Float
centuries d f = (((whole d ⊖ whole (pos 51544)) ⊖ plus 1 0_5) ⊕ f) ⊘ whole (pos 36525)

-- the six Doodson arguments D1 to D6 in degrees and their frequencies DD1 to DD6 in cycles per day
unfoldable pub arguments_of : (f t : Float) → Arguments
arguments_of f t =
    let D1 = whole (pos 360) ⊗ f ⊖ F4 t in
    let D2 = F3 t ⊕ F5 t in
    let D3 = D2 ⊖ F4 t in
    let D4 = D2 ⊖ F1 t in
    let D5 = neg (F5 t) in
    let D6 = D3 ⊖ F2 t in
    let DD1 = whole (pos 1) ⊖ FD4 t in
    let DD2 = FD3 t ⊕ FD5 t in
    let DD3 = DD2 ⊖ FD4 t in
    let DD4 = DD2 ⊖ FD1 t in
    let DD5 = neg (FD5 t) in
    let DD6 = DD3 ⊖ FD2 in
    record { degrees = D1 ∷ D2 ∷ D3 ∷ D4 ∷ D5 ∷ D6 ∷ []; cycles = DD1 ∷ DD2 ∷ DD3 ∷ DD4 ∷ DD5 ∷ DD6 ∷ [] }

-- at an instant for phases: the hour angle is of its UTC part, whose fraction of the day is 1 or a little more in second 60, and the centuries of its TT part
unfoldable pub arguments_at : PhaseInstant → Arguments
arguments_at p = arguments_of (day_fraction (reading_micros p.utc)) (centuries p.tt.day (day_fraction p.tt.micros))

-- the six multipliers in their order
abbrev pub multipliers : Doodson → List ℤ
multipliers k = k.k1 ∷ k.k2 ∷ k.k3 ∷ k.k4 ∷ k.k5 ∷ k.k6 ∷ []

-- the products with the six multipliers, added in order from +0
unfoldable pub sum_of_products : Doodson → List Float → Float
sum_of_products k xs = fold (λ s p. s ⊕ p.0 ⊗ p.1) zero64 (zip (map whole (multipliers k)) xs)

-- 360 degrees
unfoldable pub turn64 : Float
turn64 = whole (pos 360)

-- the frequency, and the phase, reduced by 360
unfoldable pub constituent_of : Arguments → Doodson → Constituent
constituent_of a k = record {
  frequency = sum_of_products k a.cycles;
  phase = reduced turn64 (sum_of_products k a.degrees);
}

-- a multiplier from -12 to 12
abbrev pub in_range : ℤ → Bool
in_range z = le_z (neg_ℤ (pos 12)) z && le_z z (pos 12)

-- all six are
unfoldable pub all_in_range : Doodson → Bool
all_in_range k = list_all in_range (multipliers k)

-- the refusal of six multipliers
abbrev pub range_cases : Doodson → List Case
range_cases k = case Multiplier (not (all_in_range k)) ∷ []

-- from arguments at hand: both numbers, or the refusal of the multipliers
unfoldable pub answer_of : Arguments → Doodson → Result Constituent Refusal
answer_of a k = refused_or Err (range_cases k) (Ok (constituent_of a k))

-- at a reading: its refusal, or that answer at its instant for phases
unfoldable pub tide_of : Reading → Doodson → Result Constituent Refusal
tide_of r k = at_phase Err (λ p. answer_of (arguments_at p) k) r

-- the numbers of an answer, or z where it is a refusal: what the call of the whole answer leaves where z was
abbrev pub frequency_or : Float → Result Constituent Refusal → Float
frequency_or z (Ok x) = x.frequency
frequency_or z (Err n) = z

abbrev pub phase_or : Float → Result Constituent Refusal → Float
phase_or z (Ok x) = x.phase
phase_or z (Err n) = z

-- what the call of one number gives: +0 beside a refusal
abbrev pub frequency_of : Result Constituent Refusal → Float
frequency_of = frequency_or zero64

abbrev pub phase_of : Result Constituent Refusal → Float
phase_of = phase_or zero64

-- the refusal number, 0 for none
abbrev pub tide_refusal_of : Result Constituent Refusal → ℕ
tide_refusal_of = refusal_of

-- the six multipliers as the exported calls take them
abbrev pub doodson : (k1 k2 k3 k4 k5 k6 : ℤ) → Doodson
doodson k1 k2 k3 k4 k5 k6 = record { k1 = k1; k2 = k2; k3 = k3; k4 = k4; k5 = k5; k6 = k6 }
