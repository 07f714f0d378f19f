-- The case that the head of ARG2 gives, the day 311.5 of year 08, computed from the definition with 8. Assumes nothing.
use Rattle.std.proofs.Common.{T}
use lib.Ieee as Ieee
use lib.Ieee.{round, add, sub, mul, div, neg, rem, lt, eq, of_int, to_unsigned}
use Rattle.binary64.specs.Words.{decimal64, plus}
use Rattle.binary64.specs.Reduction.{raised, settled, reduced}
use Rattle.binary64.specs.Claims.{within}
use Rattle.schwiderski.specs.Formula.{two_pi, degree, whole_day, seconds, leap_days, day_count, centuries, sun, moon, perigee, longitudes, angle_sum, sums, reduced_each, angles_of}
use Rattle.schwiderski.specs.Claims.{as_published}

-- PROMISE. The formula with 8 and the day 311.5 gives each of the eleven published angles, within 10^-7.
pub published : T (as_published (angles_of 8 (plus 1 311_5)))
unfolding as_published within angles_of reduced_each sums angle_sum longitudes centuries day_count leap_days seconds whole_day sun moon perigee degree two_pi decimal64 reduced raised settled
    of_int to_unsigned add sub mul div neg Ieee.sum round rem lt eq
published = tt
