-- No step passes an i64.
use Rattle.std.proofs.Common.{rules}
use Rattle.nutation.specs.Ours.{offset}
use Rattle.nutation.proofs.Sizes.{offset_first, offset_second, offset_difference, offset_ten, offset_sum, offset_fits}
use Rattle.nutation.proofs.offset_of.Goals as goal

pub overflow_sub-result : goal.overflow_sub-result
overflow_sub-result c = search (rules, offset_first, offset_second, offset_difference)

pub overflow_mul-result-3 : goal.overflow_mul-result-3
overflow_mul-result-3 c = search (rules, offset_first, offset_second, offset_difference, offset_ten)

pub overflow_add-result : goal.overflow_add-result
overflow_add-result c = search (rules, offset_first, offset_second, offset_difference, offset_ten, offset_sum)

pub returns : goal.returns
unfolding offset
returns c = search (rules, offset_first, offset_second, offset_difference, offset_ten, offset_sum, offset_fits)
