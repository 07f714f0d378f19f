-- The Delaunay arguments l, l', F, D, Omega in degrees, F1 to F5, and their frequencies in cycles per day, FD1 to FD5, at t Julian centuries
-- from J2000.0: the constants and the order of operations of the IERS routine TDFRPH. FD2 is constant.
-- Derived from that routine; not IERS Conventions software (NOTICE, docs/DIFFERENCES.md).
use Rattle.std.specs.Prelude.{Float}
use Rattle.binary64.specs.Words.{◌⊕◌, ◌⊖◌, ◌⊗◌, plus, minus}

-- c0 + t * (c1 + t * (c2 + t * (c3 + t * c4)))
unfoldable pub horner : (t c0 c1 c2 c3 c4 : Float) → Float
horner t c0 c1 c2 c3 c4 = c0 ⊕ t ⊗ (c1 ⊕ t ⊗ (c2 ⊕ t ⊗ (c3 ⊕ t ⊗ c4)))

-- l, l', F, D and Omega
unfoldable pub F1 : Float → Float
unfolding horner
F1 t = horner t (plus 10 134_9634025100) (plus 10 477198_8675605000) (plus 10 0_0088553333) (plus 10 0_0000143431) (minus 10 0_0000000680)

unfoldable pub F2 : Float → Float
unfolding horner
F2 t = horner t (plus 10 357_5291091806) (plus 10 35999_0502911389) (minus 10 0_0001536667) (plus 10 0_0000000378) (minus 10 0_0000000032)

unfoldable pub F3 : Float → Float
unfolding horner
F3 t = horner t (plus 10 93_2720906200) (plus 10 483202_0174577222) (minus 10 0_0035420000) (minus 10 0_0000002881) (plus 10 0_0000000012)

unfoldable pub F4 : Float → Float
unfolding horner
F4 t = horner t (plus 10 297_8501954694) (plus 10 445267_1114469445) (minus 10 0_0017696111) (plus 10 0_0000018314) (minus 10 0_0000000088)

unfoldable pub F5 : Float → Float
unfolding horner
F5 t = horner t (plus 10 125_0445550100) (minus 10 1934_1362619722) (plus 10 0_0020756111) (plus 10 0_0000021394) (minus 10 0_0000000165)

-- their frequencies
unfoldable pub FD1 : Float → Float
FD1 t = plus 10 0_0362916471 ⊕ plus 10 0_0000000013 ⊗ t

unfoldable pub FD2 : Float
FD2 = plus 10 0_0027377786

unfoldable pub FD3 : Float → Float
FD3 t = plus 10 0_0367481951 ⊖ plus 10 0_0000000005 ⊗ t

unfoldable pub FD4 : Float → Float
FD4 t = plus 10 0_0338631920 ⊖ plus 10 0_0000000003 ⊗ t

unfoldable pub FD5 : Float → Float
FD5 t = minus 10 0_0001470938 ⊕ plus 10 0_0000000003 ⊗ t
