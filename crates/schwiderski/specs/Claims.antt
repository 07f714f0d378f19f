-- The words of the promises on the angles (proofs/Promises.antt, Published.antt).
use Rattle.std.specs.Prelude.{◌≡◌, ℕ, ◌+◌, ◌*◌, ◌<◌, ◌≤◌, Bool, false, ◌&&◌, Float}
use Rattle.std.specs.Float.{nan, inf, fin}
use Rattle.std.specs.Float.Ieee.{up, down}
use Rattle.binary64.specs.Claims.{within}
use Rattle.schwiderski.specs.declared.Angles.{Angles}

-- P of each of the eleven
abbrev pub Every : (Float → Type 0) → Angles → Type 0
Every P a =
    P a.m2 × P a.s2 × P a.n2 × P a.k2 × P a.k1
    × P a.o1 × P a.p1 × P a.q1 × P a.mf × P a.mm × P a.ssa

-- day is the finite number (m * up e) / down e, at least 1 and below n + 1
abbrev pub InDays : (n : ℕ) (day : Float) → Type 0
InDays n nan = ⊥
InDays n (inf s) = ⊥
InDays n (fin s m e) = (s ≡ false) × (down e ≤ m * up e) × (m * up e < (n + 1) * down e)

-- each within 10^-7 of the number that the head of ARG2 gives for its case
unfoldable pub as_published : Angles → Bool
as_published a =
    within 7 19 0_5785483804494191418 a.m2
    && within 7 17 6_28318080000000023 a.s2
    && within 7 18 5_897950576134803669 a.n2
    && within 7 18 1_615958909210931438 a.k2
    && within 7 18 2_378775781400364053 a.k1
    && within 7 18 4_482957906228527634 a.o1
    && within 7 18 3_904405018599632626 a.p1
    && within 7 18 3_519174794734325928 a.q1
    && within 7 18 1_037427808761705705 a.mf
    && within 7 19 0_9637917514941207742 a.mm
    && within 7 18 1_615972056390525324 a.ssa
