-- `schwiderski::FormulaDay::longitudes` meets its contract: the day is cut to a whole number of at most 366, binary64 holds that and the count of days, and the rest
-- is the definition.
use Rattle.std.proofs.Common.{◌≡◌, ℕ, ◌+◌, ◌*◌, ◌≤◌, T, ℤ, pos, nat_abs, sym, ap, ◌∙◌, refl, subst, le_trans, lit<, lit≤}
use lib.Ieee.{Float, neg, of_int, of_bits, binary64, in_float}
use Rattle.algebra.proofs.Bits.{read_back, bits_given}
use Rattle.binary64.specs.Words.{decimal64}
use Rattle.binary64.proofs.Bounded.{size_in_float}
use Rattle.schwiderski.specs.Formula.{degree, whole_day, seconds, day_count, centuries, sun, moon, perigee, longitudes}
use Rattle.schwiderski.proofs.Days.{Day, day, count_size}
use Rattle.schwiderski.proofs.FormulaDay.longitudes.Goals as goal

-- the whole part of the day, and the count of days, as they are told
module _ (y : ℕ) (x : Float) (id : ℕ) (n : ℤ) (h : y ≤ 200) (d : Day x) (i : id ≡ whole_day x) (e : n ≡ day_count y id) where
  id_most : id ≤ 366
  id_most = subst (λ (n : ℕ). n ≤ 366) (sym i) d.most

  small : nat_abs n ≤ 366 + 365 * 200 + 50
  small = subst (λ (z : ℤ). nat_abs z ≤ 366 + 365 * 200 + 50) (sym e) (count_size y id h id_most)

  count_same : read_back n ≡ n
  count_same = (bits_given n (366 + 365 * 200 + 50) small (lit< tt)).is

  count_back : read_back n ≡ day_count y (whole_day x)
  count_back = count_same ∙ e ∙ ap (day_count y) i

  count_held : T (in_float binary64 (read_back n))
  count_held = rw count_same (size_in_float n (le_trans small (lit≤ tt)))

  id_held : T (in_float binary64 (pos id))
  id_held = size_in_float (pos id) (le_trans id_most (lit≤ tt))

pub truncating_f64_to_u64-id-requires-clause-lower_bound : goal.truncating_f64_to_u64-id-requires-clause-lower_bound
truncating_f64_to_u64-id-requires-clause-lower_bound c = (day c.args.self.day c.args.self.from c.args.self.below).from

pub truncating_f64_to_u64-id-requires-clause-upper_bound : goal.truncating_f64_to_u64-id-requires-clause-upper_bound
truncating_f64_to_u64-id-requires-clause-upper_bound c = (day c.args.self.day c.args.self.from c.args.self.below).below

pub count-n-requires : goal.count-n-requires
unfolding whole_day
count-n-requires c = id_most c.args.self.y c.args.self.day _ _ c.args.self.year (day c.args.self.day c.args.self.from c.args.self.below) c.truncating_f64_to_u64-id.ensures refl

pub int_to_float-t : goal.int_to_float-t
unfolding whole_day
int_to_float-t c = count_held c.args.self.y c.args.self.day _ _ c.args.self.year (day c.args.self.day c.args.self.from c.args.self.below) c.truncating_f64_to_u64-id.ensures c.count-n.ensures

pub int_to_float-result : goal.int_to_float-result
unfolding whole_day
int_to_float-result c = id_held c.args.self.y c.args.self.day _ _ c.args.self.year (day c.args.self.day c.args.self.from c.args.self.below) c.truncating_f64_to_u64-id.ensures c.count-n.ensures

pub returns : goal.returns
unfolding longitudes centuries seconds sun moon perigee degree decimal64 neg of_int of_bits whole_day
returns c =
    rw (
      count_back c.args.self.y c.args.self.day _ _ c.args.self.year (day c.args.self.day c.args.self.from c.args.self.below) c.truncating_f64_to_u64-id.ensures c.count-n.ensures,
      c.truncating_f64_to_u64-id.ensures,
    )
