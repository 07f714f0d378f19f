-- The two cases that the head of TDFRPH gives, computed from the definitions. Assumes nothing.
use lib.Dec.{T}
use lib.Ieee as Ieee
use lib.Ieee.{round, add, sub, mul, div, neg, rem, lt, eq, of_int}
use Rattle.instants.specs.Instants.{day_at_index}
use Rattle.calendar.specs.Dates.{leap_year, month_lengths, month_length, sum, year_length, days_of_years, days_before, date_index}
use Rattle.utc.specs.Table.{first_step, later_steps, begun, tai_minus_utc, is_eve, has_second60}
use Rattle.utc.specs.Readings.{reading}
use Rattle.utc.specs.Conversions.{tt_of}
use Rattle.binary64.specs.Words.{decimal64}
use Rattle.tide.specs.Delaunay.{horner, F1, F2, F3, F4, F5}
use Rattle.tide.specs.Tidal.{day_fraction, centuries, arguments_of, arguments_at, sum_of_products, turn64, constituent_of, all_in_range, answer_of, tide_of, phase_of}
use Rattle.tide.specs.Claims.{m2}
use Rattle.binary64.specs.Reduction.{raised, settled, reduced}
use Rattle.binary64.specs.Claims.{within}

-- PROMISE. The phase of M2 at UTC 2009-06-25, 0 h and 12:01:45, is within a millionth of a degree of the published one.
pub published :
    T (within 6 12 303_343338720297 (phase_of (tide_of (reading 2009 6 25 0 0 0 0) m2)))
    × T (within 6 12 291_997959322689 (phase_of (tide_of (reading 2009 6 25 12 1 45 0) m2)))
unfolding within tide_of tt_of tai_minus_utc begun first_step later_steps has_second60 is_eve day_at_index month_length date_index days_of_years days_before year_length sum month_lengths leap_year
    answer_of all_in_range constituent_of arguments_at arguments_of day_fraction centuries decimal64 horner F1 F2 F3 F4 F5 sum_of_products reduced raised settled turn64
    of_int add sub mul div neg Ieee.sum round rem lt eq
published = (tt, tt)
