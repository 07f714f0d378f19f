-- `tide::julian_centuries` meets its contract, by the definition: the day is read back as it was.
use lib.Ieee.{of_int, of_bits}
use mir.Facts.{to_z-of_z}
use Rattle.binary64.specs.Words.{decimal64}
use Rattle.tide.specs.Tidal.{centuries}
use Rattle.tide.proofs.julian_centuries.Goals as goal

pub returns : goal.returns
unfolding centuries of_int of_bits decimal64
returns c = rw (to_z-of_z c.ranges.day)
