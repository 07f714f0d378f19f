-- An accepted day number is small, so that its sum with the offset is its index.
use Rattle.std.proofs.Common.{rules, ◌≡◌, ◌∙◌, ap, sym, arith, ◌<◌, ℕ, ℤ, pos, ◌+ℤ◌, w64, to_z, of_z, FitsSigned}
use lib.IntN.{nat_abs}
use Rattle.instants.specs.Limits.{index_offset, days_covered}
use Rattle.instants.specs.Instants.{day_index, IsAccepted}
use Rattle.instants.specs.Moments.{moment}
use Rattle.instants.proofs.Signs.{DayInRange, biased_sum, biased_read}
use Rattle.instants.proofs.Accepted.{AcceptedAt, accepted_at, range, index_of}
use Rattle.instants.proofs.Instant.moment.Goals as goal

module _ (d : ℤ) (m : ℕ) (f : FitsSigned w64 d) (a : IsAccepted d m) where
  at : AcceptedAt d m (day_index d)
  at = accepted_at d m _ a

  day : DayInRange d
  day = range d at.inside

  -- what the code adds up is the index
  reads : to_z w64 (of_z w64 (to_z w64 (of_z w64 d) +ℤ pos index_offset)) ≡ pos (day_index d)
  reads = biased_read d f day ∙ ap pos (sym (index_of d day))

  covered : day_index d < days_covered
  covered = omega (arith, at.high)

pub overflow_add-self : goal.overflow_add-self
overflow_add-self c =
    let f : FitsSigned w64 c.args.self.day = search rules in
    biased_sum c.args.self.day f (day c.args.self.day _ f c.requires)

pub overflow_cast-self : goal.overflow_cast-self
overflow_cast-self c =
    let f : FitsSigned w64 c.args.self.day = search rules in
    rw (reads c.args.self.day _ f c.requires) (tt, record { fits = omega (arith, covered c.args.self.day _ f c.requires) })

pub moment-requires-clause-index : goal.moment-requires-clause-index
moment-requires-clause-index c =
    let f : FitsSigned w64 c.args.self.day = search rules in
    rw (reads c.args.self.day _ f c.requires) (covered c.args.self.day _ f c.requires)

pub moment-requires-clause-micros : goal.moment-requires-clause-micros
moment-requires-clause-micros c =
    let f : FitsSigned w64 c.args.self.day = search rules in
    (at c.args.self.day _ f c.requires).less

pub returns : goal.returns
returns c =
    let f : FitsSigned w64 c.args.self.day = search rules in
    c.moment.ensures ∙ ap (λ (z : ℤ). moment (nat_abs z) c.args.self.micros) (reads c.args.self.day _ f c.requires)
