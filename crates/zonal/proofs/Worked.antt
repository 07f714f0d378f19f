-- The definitions at the test case of RG_ZONT2, day 54465, microsecond 0, computed; and that no constant is within the promised distances.
-- Numbers within the promised distances on a day are near ours, since both are near the exact sums, and ours of two days are farther apart. And the
-- distances of ours, as they are worked out.
-- Assumes nothing.
use mathlib.Core.Path.{◌≡◌, refl, subst}
use mathlib.Core.Bool.{◌&&◌}
use Prim.Native.Nat.{ℕ, ◌+◌}
use native.Mathlib.Nat as N
use lib.Dec.{T, lit≤}
use lib.IntN.{ℤ, pos, ◌*ℤ◌, pow, one}
use lib.Signed.{quot_z}
use Rattle.algebra.specs.Integers.{+◌, −◌}
use Rattle.algebra.specs.Near.{Near}
use Rattle.algebra.proofs.Polynomial.{eqℤ}
use Rattle.algebra.proofs.Near.{near_one_fraction, near_two_apart}
use Rattle.instants.specs.Instants.{outside, day_index, acceptance, IsAccepted}
use Rattle.instants.specs.Moments.{since_j2000}
use Rattle.sine.specs.Exact.{S, sine_den, whole_turn, exact_sine, exact_cosine}
use Rattle.sine.specs.Ours.{alternating, sine_quarter, quarter_turn, our_sine, our_cosine}
use Rattle.zonal.specs.declared.Corrections.{Corrections}
use Rattle.zonal.specs.Exact.{ut1_sum, lod_sum, rate_sum, denominator, exact_ut1, exact_lod, exact_rate}
use Rattle.zonal.specs.Ours.{corrections, corrections_at}
use Rattle.zonal.specs.Within.{distances, promised, Within}
use Rattle.zonal.proofs.Distance.{proved}
use Rattle.zonal.proofs.Promises.{accepted_near}

-- ---- the distances that are proved

-- 3 ns, 17 ps and 2 units
proved_are : proved ≡ distances 3 17 2
unfolding proved
proved_are = refl

-- ---- the test case

-- PROMISE. An accepted instant exists: that of the test case.
pub case_accepted : IsAccepted (+ 54465) 0
unfolding acceptance outside day_index
case_accepted = refl

-- the day after is accepted too
pub next_accepted : IsAccepted (+ 54466) 0
unfolding acceptance outside day_index
next_accepted = refl

-- a thousand times an exact sum, towards zero
pub thousandths : ℤ → ℤ
thousandths x = quot_z (x *ℤ + 1000) (pos denominator)

-- The exact sums: 79832876.785 ns, 50353030.354 ps and -4249711.616 units. RG_ZONT2 has 7.983287678576557467E-002 s, 5.035303035410713729E-005 s
-- and -4.249711616463017E-014 rad/s.
pub exact_case : T (eqℤ (thousandths (exact_ut1 (since_j2000 (+ 54465) 0))) (+ 79832876785)
    && eqℤ (thousandths (exact_lod (since_j2000 (+ 54465) 0))) (+ 50353030354)
    && eqℤ (thousandths (exact_rate (since_j2000 (+ 54465) 0))) (− 4249711616))
unfolding thousandths ut1_sum lod_sum rate_sum exact_sine exact_cosine whole_turn S sine_den pow one
exact_case = tt

-- ours, there and a day later
our_case : corrections_at 149018 0 ≡ corrections (+ 79832877) (+ 50353031) (− 4249712)
unfolding corrections_at ut1_sum lod_sum rate_sum our_sine our_cosine whole_turn quarter_turn sine_quarter alternating
our_case = refl

our_next : corrections_at 149019 0 ≡ corrections (+ 79837323) (− 67358353) (+ 5684997)
unfolding corrections_at ut1_sum lod_sum rate_sum our_sine our_cosine whole_turn quarter_turn sine_quarter alternating
our_next = refl

-- ---- constants

-- numbers within the promised distances are near ours, since both are near the exact sums
pub record NearOurs (c : Corrections) (a b r : ℤ) : Type 0 where
  pub ut1 : Near c.ut1 a (promised.ut1 + promised.ut1)
  pub lod : Near c.lod b (promised.lod + promised.lod)
  pub rate : Near c.rate r (promised.rate + promised.rate)

near_ours : (d : ℤ) (m : ℕ) (c : Corrections) (a b r : ℤ) → IsAccepted d m → corrections_at (day_index d) m ≡ corrections a b r → Within promised (since_j2000 d m) c → NearOurs c a b r
near_ours d m c a b r h e w =
    let o : Within promised (since_j2000 d m) (corrections a b r) = subst (λ (s : Corrections). Within promised (since_j2000 d m) s) e (accepted_near d m h) in
    record {
      ut1 = near_one_fraction promised.ut1 promised.ut1 w.positive w.ut1 o.ut1;
      lod = near_one_fraction promised.lod promised.lod w.positive w.lod o.lod;
      rate = near_one_fraction promised.rate promised.rate w.positive w.rate o.rate;
    }

case_near : (c : Corrections) → Within promised (since_j2000 (+ 54465) 0) c → NearOurs c (+ 79832877) (+ 50353031) (− 4249712)
unfolding day_index
case_near c w = near_ours (+ 54465) 0 c (+ 79832877) (+ 50353031) (− 4249712) case_accepted our_case w

next_near : (c : Corrections) → Within promised (since_j2000 (+ 54466) 0) c → NearOurs c (+ 79837323) (− 67358353) (+ 5684997)
unfolding day_index
next_near c w = near_ours (+ 54466) 0 c (+ 79837323) (− 67358353) (+ 5684997) next_accepted our_next w

-- PROMISE. Numbers within the promised distances on day 54465 and on day 54466, at microsecond 0, differ in each of the three: no constant is within them.
pub no_constant : (c c' : Corrections) → Within promised (since_j2000 (+ 54465) 0) c → Within promised (since_j2000 (+ 54466) 0) c'
    → (c.ut1 ≡ c'.ut1 → ⊥) × (c.lod ≡ c'.lod → ⊥) × (c.rate ≡ c'.rate → ⊥)
no_constant c c' w w' =
    let n : NearOurs c (+ 79832877) (+ 50353031) (− 4249712) = case_near c w in
    let m : NearOurs c' (+ 79837323) (− 67358353) (+ 5684997) = next_near c' w' in (
      λ e. near_two_apart (rw e at n.ut1) m.ut1 (lit≤ tt),
      λ e. near_two_apart (rw e at n.lod) m.lod (lit≤ tt),
      λ e. near_two_apart (rw e at n.rate) m.rate (lit≤ tt),
    )

-- zeros are not within the promised distances on day 54465
pub no_zeros : Within promised (since_j2000 (+ 54465) 0) (corrections (+ 0) (+ 0) (+ 0)) → ⊥
no_zeros w = N.lt_irrefl _ (N.lt_of_le_of_lt (case_near (corrections (+ 0) (+ 0) (+ 0)) w).ut1.by (lit≤ tt))
