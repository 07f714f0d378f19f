-- The moment x and the microseconds n since J2000.0 of one instant: n = x - 5 N, and x is in the span that is covered. Assumes nothing.
use mathlib.Core.Path.{◌≡◌, ◌∙◌, ap}
use Prim.Native.Nat.{ℕ, ◌≤◌, ◌<◌}
use native.Mathlib.Omega.{arith}
use lib.IntN.{ℤ, pos, ◌-ℤ◌}
use Rattle.algebra.proofs.Ring.{end, ◌▹◌, ring, quote}
use Rattle.instants.specs.Limits.{day_micros, index_offset, days_covered}
use Rattle.instants.specs.Instants.{day_index, IsAccepted}
use Rattle.instants.specs.Moments.{since_j2000, moment, moment_of, since, latest}
use Rattle.instants.proofs.Accepted.{accepted_at}

by_index : (i m : ℕ) → since_j2000 (pos i -ℤ pos index_offset) m ≡ since (moment i m)
unfolding since
by_index i m = ring (i ▹ m ▹ end) (search quote depth 13) tt

-- of the day number d, whose index is i
pub moment_is : (d : ℤ) (i m : ℕ) → d ≡ pos i -ℤ pos index_offset → since_j2000 d m ≡ since (moment i m)
moment_is d i m e = ap (λ (z : ℤ). since_j2000 z m) e ∙ by_index i m

-- PROMISE. At an accepted instant the moment is n + 5 N.
pub accepted_moment : (d : ℤ) (m : ℕ) → IsAccepted d m → since_j2000 d m ≡ since (moment_of d m)
accepted_moment d m a = moment_is d (day_index d) m (accepted_at d m (day_index d) a).is

pub moment_le : (i m : ℕ) → i < days_covered → m < day_micros → moment i m ≤ latest
moment_le i m hi hm = omega arith

pub accepted_le : (d : ℤ) (m : ℕ) → IsAccepted d m → moment_of d m ≤ latest
accepted_le d m a = let k = accepted_at d m (day_index d) a in moment_le (day_index d) m (omega (arith, k.high)) k.less
