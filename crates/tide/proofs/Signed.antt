-- The day number and the six multipliers: their sizes, so that binary64 holds them. Assumes nothing.
use mathlib.Core.Bool.{Bool, true, false, cond, ◌&&◌}
use Prim.Native.Nat.{ℕ, suc, ◌-◌, ◌≤◌, ◌<◌}
use native.Mathlib.Omega.{arith}
use lib.Dec.{T, ltb, leb, leb→le}
use lib.IntN.{ℤ, pos, negsuc, nat_abs, ◌-ℤ◌}
use lib.Ieee.Fits.{and_l, and_r}
use Rattle.instants.specs.Instants.{IsAccepted, day_index}
use Rattle.instants.proofs.Accepted.{accepted_at}
use Rattle.instants.specs.Limits.{index_offset, days_covered}
use Rattle.tide.specs.declared.Doodson.{Doodson}
use Rattle.tide.specs.Tidal.{in_range, all_in_range}

-- ---- the sizes
pub range_size : (z : ℤ) → T (in_range z) → nat_abs z ≤ 12
range_size (pos n) h = leb→le n 12 h
range_size (negsuc n) h = let k : n ≤ 11 = leb→le n 11 (and_l (leb n 11) true h) in omega arith

-- a day number is at most this in size: the last covered day, since the first is nearer to 0
abbrev pub day_most : ℕ
day_most = days_covered - 1 - index_offset

index_size : (i : ℕ) → i < days_covered → nat_abs (pos i -ℤ pos index_offset) ≤ day_most
index_size i h = by (ltb i index_offset)
  where
    by : (b : Bool) → nat_abs (cond b (negsuc (index_offset - suc i)) (pos (i - index_offset))) ≤ day_most
    by true = omega arith
    by false = omega arith

pub accepted_size : (d : ℤ) (m : ℕ) → IsAccepted d m → nat_abs d ≤ day_most
accepted_size d m h =
    let a = accepted_at d m (day_index d) h in
    rw a.is (index_size (day_index d) (omega (arith, a.high)))

-- ---- where all multipliers are in range, each is
pub record Each (k : Doodson) : Type 0 where
  pub k1 : T (in_range k.k1)
  pub k2 : T (in_range k.k2)
  pub k3 : T (in_range k.k3)
  pub k4 : T (in_range k.k4)
  pub k5 : T (in_range k.k5)
  pub k6 : T (in_range k.k6)

pub each : (k : Doodson) → T (all_in_range k) → Each k
unfolding all_in_range
each k h =
    let r6 = in_range k.k6 && true in
    let r5 = in_range k.k5 && r6 in
    let r4 = in_range k.k4 && r5 in
    let r3 = in_range k.k3 && r4 in
    let r2 = in_range k.k2 && r3 in
    let h2 = and_r (in_range k.k1) r2 h in
    let h3 = and_r (in_range k.k2) r3 h2 in
    let h4 = and_r (in_range k.k3) r4 h3 in
    let h5 = and_r (in_range k.k4) r5 h4 in
    let h6 = and_r (in_range k.k5) r6 h5 in
    record {
      k1 = and_l (in_range k.k1) r2 h;
      k2 = and_l (in_range k.k2) r3 h2;
      k3 = and_l (in_range k.k3) r4 h3;
      k4 = and_l (in_range k.k4) r5 h4;
      k5 = and_l (in_range k.k5) r6 h5;
      k6 = and_l (in_range k.k6) true h6;
    }
