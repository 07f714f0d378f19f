-- The sums fit since the instant is accepted, so the bits that the code adds are the numbers.
use Rattle.std.proofs.Common.{rules, ◌≡◌, ◌∙◌, ap, arith, ◌+◌, ◌/◌, ◌<◌, ◌^◌, ℕ, w64, ℤ, ◌+ℤ◌, to_z, of_z, FitsSigned}
use mir.Facts.{to_z-of_z, to_z_pos}
use Rattle.instants.specs.Limits.{day_micros}
use Rattle.instants.specs.Instants.{instant, later_day, later_micros}
use Rattle.instants.specs.Inner.{LaterBounds}
use Rattle.instants.proofs.LaterInstants.{sum_fits, day_fits}
use Rattle.instants.proofs.Instant.later.Goals as goal

-- the sum that the code computes is that of the definition
same : (d : ℤ) (m t : ℕ) → FitsSigned w64 d → LaterBounds d m t → to_z w64 (of_z w64 d) +ℤ to_z w64 ((m + t) / day_micros) ≡ later_day d m t
same d m t f b =
    let small : m + t < 2 ^ 63 = sum_fits d m t b.accepted b.few in
    ap (λ (z : ℤ). z +ℤ to_z w64 ((m + t) / day_micros)) (to_z-of_z f) ∙ ap (λ (z : ℤ). d +ℤ z) (to_z_pos w64 (omega arith))

pub overflow_add-sum : goal.overflow_add-sum
overflow_add-sum c = omega (arith, sum_fits c.args.self.day _ _ c.requires.accepted c.requires.few)

pub overflow_add-result : goal.overflow_add-result
overflow_add-result c =
    let f : FitsSigned w64 c.args.self.day = search rules in
    rw (same c.args.self.day _ _ f c.requires) (day_fits c.args.self.day _ _ c.requires.accepted c.requires.few)

pub returns : goal.returns
returns c =
    let f : FitsSigned w64 c.args.self.day = search rules in
    ap (λ (z : ℤ). instant z (later_micros c.args.self.micros c.args.t))
    (ap (λ (z : ℤ). to_z w64 (of_z w64 z)) (same c.args.self.day _ _ f c.requires) ∙ to_z-of_z (day_fits c.args.self.day _ _ c.requires.accepted c.requires.few))
