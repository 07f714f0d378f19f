-- `schwiderski::FormulaDay::count` meets its contract: each number is small, so the machine reads it back from its bits.
use Rattle.std.proofs.Common.{ℕ, ◌+◌, ◌*◌, ◌≤◌, ◌≡◌, ℤ, pos, ◌+ℤ◌, ◌-ℤ◌, ◌*ℤ◌, refl, ap, lit<, lit≤, w64, to_z}
use Rattle.algebra.proofs.Bits.{read_back, InBits, bits_fit, bits_back, bits_times, bits_plus}
use Rattle.schwiderski.specs.Formula.{leap_days, day_count}
use Rattle.schwiderski.proofs.Days.{came_in, less_size, leap_days_size}
use Rattle.schwiderski.proofs.FormulaDay.count.Goals as goal

module _ (y d : ℕ) (h : y ≤ 200) (k : d ≤ 366) where
  from-75 : InBits (to_z w64 y -ℤ pos 75) (pos y -ℤ pos 75) 200
  from-75 = record { is = ap (λ (z : ℤ). z -ℤ pos 75) (came_in y 200 h (lit< tt)).is; most = less_size y 74 200 h (lit< tt); room = lit< tt }

  years : InBits (pos 365 *ℤ read_back (to_z w64 y -ℤ pos 75)) (pos 365 *ℤ (pos y -ℤ pos 75)) (365 * 200)
  years = bits_times {x = pos 365} {z = pos 365} {a = 365} (record { is = refl; most = lit≤ tt; room = lit< tt }) (bits_back from-75) (lit< tt)

  days : InBits (to_z w64 d +ℤ read_back (pos 365 *ℤ read_back (to_z w64 y -ℤ pos 75))) (pos d +ℤ pos 365 *ℤ (pos y -ℤ pos 75)) (366 + 365 * 200)
  days = bits_plus (came_in d 366 k (lit< tt)) (bits_back years) (lit< tt)

  count : (n : ℤ) → n ≡ leap_days y
      → InBits (read_back (to_z w64 d +ℤ read_back (pos 365 *ℤ read_back (to_z w64 y -ℤ pos 75))) +ℤ read_back n) (day_count y d) (366 + 365 * 200 + 50)
  unfolding day_count
  count n e = bits_plus (bits_back days) (bits_back (record { is = e; most = leap_days_size y h; room = lit< tt })) (lit< tt)

pub overflow_add-result-2 : goal.overflow_add-result-2
overflow_add-result-2 c = bits_fit (count c.args.self.y c.args.d c.args.self.year c.requires c.leap_days.result c.leap_days.ensures)

pub returns : goal.returns
returns c = (bits_back (count c.args.self.y c.args.d c.args.self.year c.requires c.leap_days.result c.leap_days.ensures)).is
