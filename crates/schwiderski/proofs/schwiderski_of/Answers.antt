-- `schwiderski::schwiderski_of` meets its contract, by the two tests of the definition; a year that passes is at most 200 after 1900, and a day that passes
-- is below 367.
use Rattle.std.proofs.Common.{◌≡◌, ℕ, ◌+◌, ◌&&◌, true, T, pos, sym, ap, subst}
use lib.Ieee.{Float, lt, le, of_int, of_bits}
use lib.Ieee.Bits.{is_true}
use lib.Ieee.Fits.{and_l, and_r}
use Rattle.calendar.specs.Dates.{year_length}
use Rattle.binary64.specs.Words.{whole}
use Rattle.schwiderski.specs.Service.{in_year, schwiderski_of}
use Rattle.schwiderski.proofs.Days.{year_end}
use Rattle.schwiderski.proofs.schwiderski_of.Goals as goal

pub returns-then-year : goal.returns-then-year
unfolding schwiderski_of
returns-then-year c = rw c.if-year.true

-- where both tests passed
module _ (y : ℕ) (x : Float) (n : ℕ) (e : n ≡ year_length y) (h : (le (whole (pos 1)) x && lt x (whole (pos (n + 1)))) ≡ true) where
  in_year_lem : T (in_year y x)
  unfolding in_year
  in_year_lem = subst T (ap (λ (n : ℕ). le (whole (pos 1)) x && lt x (whole (pos (n + 1)))) e) (subst T (sym h) tt)

  from_one : T (le (whole (pos 1)) x)
  unfolding in_year
  from_one = and_l (le (whole (pos 1)) x) (lt x (whole (pos (year_length y + 1)))) in_year_lem

  below_end : T (lt x (whole (pos 367)))
  unfolding in_year
  below_end = year_end y x (and_r (le (whole (pos 1)) x) (lt x (whole (pos (year_length y + 1)))) in_year_lem)

pub formula-requires-clause-from : goal.formula-requires-clause-from
unfolding of_int of_bits
formula-requires-clause-from c = from_one c.args.year c.args.day c.year_length.result c.year_length.ensures.days c.if-day-end.true

pub formula-requires-clause-below : goal.formula-requires-clause-below
unfolding of_int of_bits
formula-requires-clause-below c = below_end c.args.year c.args.day c.year_length.result c.year_length.ensures.days c.if-day-end.true

pub returns-then-day-end : goal.returns-then-day-end
unfolding schwiderski_of of_int of_bits
returns-then-day-end c =
    rw (
      c.if-year.false,
      is_true (in_year c.args.year c.args.day) (in_year_lem c.args.year c.args.day c.year_length.result c.year_length.ensures.days c.if-day-end.true),
      c.formula.ensures,
    )

pub returns-else-day-end : goal.returns-else-day-end
unfolding schwiderski_of in_year of_int of_bits
returns-else-day-end c = rw (c.if-year.false, sym c.year_length.ensures.days, c.if-day-end.false)
