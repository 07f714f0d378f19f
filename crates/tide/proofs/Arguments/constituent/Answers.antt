-- `tide::Arguments::constituent` meets its contract, by the test of the multipliers: in range, both sums are those of the definition.
use Rattle.std.proofs.Common.{sym, ◌∙◌}
use lib.Ieee.{of_int, of_bits}
use Rattle.tide.specs.Tidal.{turn64, constituent_of, answer_of}
use Rattle.tide.proofs.Arguments.constituent.Goals as goal

pub returns-then-not-all_in_range : goal.returns-then-not-all_in_range
unfolding answer_of
returns-then-not-all_in_range c = rw (sym c.all_in_range.ensures ∙ c.if-not-all_in_range.true)

pub returns : goal.returns
unfolding answer_of constituent_of turn64 of_int of_bits
returns c = rw (sym c.all_in_range.ensures ∙ c.if-not-all_in_range.false, c.reduce.ensures, c.sum_of_products-2.ensures, c.sum_of_products.ensures)
