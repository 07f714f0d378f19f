-- `schwiderski::FormulaDay::leap_days` meets its contract: the year less 73 and its quotient are small, so the machine reads both back from their bits.
use Rattle.std.proofs.Common.{ℕ, ◌≤◌, ℤ, pos, ◌-ℤ◌, ap, lit<, w64, to_z}
use lib.Signed.{quot_z}
use Rattle.algebra.proofs.Bits.{read_back, InBits, bits_back}
use Rattle.schwiderski.specs.Formula.{leap_days}
use Rattle.schwiderski.proofs.Days.{came_in, less_size, leap_days_size}
use Rattle.schwiderski.proofs.FormulaDay.leap_days.Goals as goal

module _ (y : ℕ) (h : y ≤ 200) where
  from-73 : InBits (to_z w64 y -ℤ pos 73) (pos y -ℤ pos 73) 200
  from-73 = record { is = ap (λ (z : ℤ). z -ℤ pos 73) (came_in y 200 h (lit< tt)).is; most = less_size y 72 200 h (lit< tt); room = lit< tt }

  quotient : InBits (quot_z (read_back (to_z w64 y -ℤ pos 73)) (pos 4)) (leap_days y) 50
  quotient = record { is = unfold leap_days in ap (λ (z : ℤ). quot_z z (pos 4)) (bits_back from-73).is; most = leap_days_size y h; room = lit< tt }

pub returns : goal.returns
returns c = (bits_back (quotient c.args.self.y c.args.self.year)).is
