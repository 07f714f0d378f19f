-- What is promised of every answer: its distance from the exact sums.
-- Assumes nothing.
use mathlib.Core.Path.{◌≡◌, sym}
use Prim.Native.Nat.{ℕ, ◌≤◌}
use native.Mathlib.Omega.{arith}
use lib.Dec.{lit≤}
use lib.IntN.{ℤ}
use Rattle.instants.specs.Instants.{day_index, instant_cases, IsAccepted}
use Rattle.instants.proofs.Impossible.{impossible}
use Rattle.instants.proofs.FirstRefusal.{answered_none}
use Rattle.instants.proofs.Accepted.{AcceptedAt, accepted_at, accepted_none, answered_too}
use Rattle.instants.specs.Moments.{since_j2000}
use Rattle.zonal.specs.declared.Corrections.{Corrections}
use Rattle.zonal.specs.Ours.{corrections_at, zonal_of}
use Rattle.zonal.specs.Within.{promised, Within, Answered}
use Rattle.zonal.proofs.Distance.{proved, corrections_near, within_wide}
use Rattle.std.specs.Prelude.{Ok, Err}

-- an accepted instant has its numbers
pub accepted_given : (d : ℤ) (m : ℕ) → IsAccepted d m → zonal_of d m ≡ Ok (corrections_at (day_index d) m)
unfolding zonal_of
accepted_given d m a = sym (answered_too Err _ d m a)

-- the computed test: the distances that are proved are within those that are promised
promise_room : (proved.ut1 ≤ promised.ut1) × (proved.lod ≤ promised.lod) × (proved.rate ≤ promised.rate)
unfolding proved
promise_room = (lit≤ tt, lit≤ tt, lit≤ tt)

-- the numbers of an accepted instant are within the promised distances
pub accepted_near : (d : ℤ) (m : ℕ) → IsAccepted d m → Within promised (since_j2000 d m) (corrections_at (day_index d) m)
accepted_near d m a =
    let h : AcceptedAt d m (day_index d) = accepted_at d m (day_index d) a in
    within_wide promise_room.0 promise_room.1 promise_room.2 (corrections_near d (day_index d) m h.is (omega (arith, h.high)) h.less)

-- PROMISE. Every accepted instant is answered, and each of its three numbers is within its promised distance of the exact sum.
pub accepted_answered : (d : ℤ) (m : ℕ) → IsAccepted d m → Answered promised d m
accepted_answered d m a = record {
  numbers = corrections_at (day_index d) m;
  given = accepted_given d m a;
  within = accepted_near d m a;
}

-- only an accepted instant is answered
pub given_accepted : (d : ℤ) (m : ℕ) (c : Corrections) → zonal_of d m ≡ Ok c → IsAccepted d m × (c ≡ corrections_at (day_index d) m)
unfolding zonal_of
given_accepted d m c e =
    let r = answered_none Err (instant_cases d m) (Ok (corrections_at (day_index d) m)) (Ok c) (λ n p. impossible (cc)) e in
    let g : Ok (corrections_at (day_index d) m) ≡ Ok c = r.1 in
    (accepted_none d m r.0, cc)
