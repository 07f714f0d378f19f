-- `tide::arguments_of` meets its contract: the five polynomials are what `quartic` ensures, and the rest is the definition.
use lib.Ieee.{neg, of_int, of_bits}
use Rattle.binary64.specs.Words.{decimal64}
use Rattle.tide.specs.Delaunay.{F1, F2, F3, F4, F5, FD1, FD2, FD3, FD4, FD5}
use Rattle.tide.specs.Tidal.{arguments_of}
use Rattle.tide.proofs.arguments_of.Goals as goal

pub returns : goal.returns
unfolding arguments_of F1 F2 F3 F4 F5 FD1 FD2 FD3 FD4 FD5 decimal64 of_int of_bits neg
returns c = rw (c.quartic-f5.ensures, c.quartic-f4.ensures, c.quartic-f3.ensures, c.quartic-f2.ensures, c.quartic-f1.ensures)
