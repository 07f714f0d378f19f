-- A word of the promise on the published phases (proofs/Published.antt).
use Rattle.std.specs.Prelude.{pos}
use Rattle.tide.specs.Tidal.{doodson}
use Rattle.tide.specs.declared.Doodson.{Doodson}

-- the multipliers of M2
abbrev pub m2 : Doodson
m2 = doodson (pos 2) (pos 0) (pos 0) (pos 0) (pos 0) (pos 0)
