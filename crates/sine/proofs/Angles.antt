-- The series at an angle of either sign, z of Q parts of a turn: it is odd, it is the same at a finer division of the turn, and up to a quarter
-- turn it moves at most 16 times as fast as its angle, in turns. Each is the series' own law at x = z / Q turns. Its denominator is above 0.
-- Assumes nothing.
use mathlib.Core.Path.{◌≡◌, sym, ◌∙◌, ap, ap₂}
use Prim.Native.Nat.{ℕ, ◌*◌, ◌^◌, ◌≤◌, ◌<◌}
use native.Mathlib.Nat as N
use native.Mathlib.Nat.{le_trans, le_of_eq, mul-le-mul}
use native.Mathlib.Omega.{arith}
use lib.Dec.{lit≤}
use lib.IntN.{ℤ, pos, neg_ℤ, ◌*ℤ◌, nat_abs}
use Rattle.algebra.specs.Near.{Near}
use Rattle.sine.specs.Series.{factorial, series}
use Rattle.algebra.proofs.Integers.{pow_pos}
use Rattle.algebra.proofs.Ring.{end, ◌▸◌, ◌▹◌, ring, quote, ring_n, quoteN}
use Rattle.algebra.proofs.Order.{abs_mul}
use Rattle.algebra.proofs.Near.{near_as, near_scale}
use Rattle.sine.proofs.Series.{series_odd, series_scale, slope_sum, series_moves}
use Rattle.sine.specs.Exact.{turn_num, turn_den, sine_den}

-- S at z of Q parts of a turn
unfoldable pub signed_s : ℕ → ℤ → ℤ
signed_s Q z = series (z *ℤ pos turn_num) (pos (Q * turn_den))

-- the denominator is above 0
pub sine_den_positive : (Q : ℕ) → 0 < Q → 0 < sine_den Q
unfolding sine_den
sine_den_positive Q h = N.mul-pos (N.one-le-pow 23 (Q * turn_den) (N.mul-pos h (lit≤ tt))) (lit≤ tt)

-- ---- odd

pub S-odd : (Q : ℕ) (z : ℤ) → signed_s Q (neg_ℤ z) ≡ neg_ℤ (signed_s Q z)
unfolding signed_s
S-odd Q z = ap (λ (x : ℤ). series x (pos (Q * turn_den))) (alg z (pos turn_num)) ∙ series_odd (z *ℤ pos turn_num) (pos (Q * turn_den))
  where
    alg : (z t : ℤ) → neg_ℤ z *ℤ t ≡ neg_ℤ (z *ℤ t)
    alg z t = ring (z ▸ t ▸ end) (search quote depth 13) tt

-- ---- at c times as many parts

pub S-fine : (c Q : ℕ) (z : ℤ) → signed_s (c * Q) (pos c *ℤ z) ≡ pos (c ^ 23) *ℤ signed_s Q z
unfolding signed_s
S-fine c Q z =
    ap₂ series (alg (pos c) z (pos turn_num)) (alg (pos c) (pos Q) (pos turn_den))
    ∙ series_scale (pos c) (z *ℤ pos turn_num) (pos (Q * turn_den)) ∙ ap (λ (x : ℤ). x *ℤ series (z *ℤ pos turn_num) (pos (Q * turn_den))) (pow_pos c 23)
  where
    alg : (c z t : ℤ) → c *ℤ z *ℤ t ≡ c *ℤ (z *ℤ t)
    alg c z t = ring (c ▸ z ▸ t ▸ end) (search quote depth 13) tt

pub sine_den_fine : (c Q : ℕ) → sine_den (c * Q) ≡ c ^ 23 * sine_den Q
unfolding sine_den
sine_den_fine c Q = go c Q turn_den (factorial 23)
  where
    go : (c q u f : ℕ) → (c * q * u) ^ 23 * f ≡ c ^ 23 * ((q * u) ^ 23 * f)
    go c q u f = ring_n (c ▹ q ▹ u ▹ f ▹ end) (search quoteN depth 13) tt

-- ---- how fast it moves

-- per turn, at most: 2 pi times the hyperbolic cosine of 79/50 is 15.9
abbrev pub slope : ℕ
slope = 16

quarter : (a Q t u : ℕ) → 4 * a ≤ Q → t ≤ 316 * u → a * t ≤ 79 * (Q * u)
quarter a Q t u h k = omega (arith, mul-le-mul h k)

bound : (Q K P t e u f G : ℕ) → K * t ≤ 16 * (G * u * f) → Q * (K * (P * (t * e))) ≤ 16 * e * (G * (P * (Q * u)) * f)
bound Q K P t e u f G h = omega (arith, N.mul-le-mul_left (Q * P * e) h)

pub S-moves : (Q e : ℕ) (y z : ℤ) → 4 * nat_abs y ≤ Q → 4 * nat_abs z ≤ Q → Near y z e → Near (pos Q *ℤ signed_s Q y) (pos Q *ℤ signed_s Q z) (slope * e * sine_den Q)
unfolding signed_s sine_den
S-moves Q e y z hy hz n = near_as (near_scale (pos Q) (series_moves (Q * u) (turn_num * e) (y *ℤ pos turn_num) (z *ℤ pos turn_num) (small y hy) (small z hz) angle)) (side y) (side z)
    (le_trans (bound Q slope_sum ((Q * u) ^ 22) turn_num e u (factorial 23) (50 ^ 23) (lit≤ tt)) (le_of_eq (ap (λ (k : ℕ). slope * e * k) (sym (den Q u (factorial 23))))))
  where
    -- a fiftieth of turn_den
    u : ℕ
    u = 2 * 10 ^ 22

    den : (Q u f : ℕ) → (Q * (50 * u)) ^ 23 * f ≡ 50 ^ 23 * ((Q * u) ^ 22 * (Q * u)) * f
    den Q u f = ring_n (Q ▹ u ▹ f ▹ end) (search quoteN depth 13) tt

    units : (Q u : ℕ) → Q * (50 * u) ≡ 50 * (Q * u)
    units Q u = ring_n (Q ▹ u ▹ end) (search quoteN depth 13) tt

    small : (x : ℤ) → 4 * nat_abs x ≤ Q → nat_abs (x *ℤ pos turn_num) ≤ 79 * (Q * u)
    small x h = le_trans (le_of_eq (abs_mul x (pos turn_num))) (quarter (nat_abs x) Q turn_num u h (lit≤ tt))

    alg : (z t : ℤ) → z *ℤ t ≡ t *ℤ z
    alg z t = ring (z ▸ t ▸ end) (search quote depth 13) tt

    angle : Near (y *ℤ pos turn_num) (z *ℤ pos turn_num) (turn_num * e)
    angle = near_as (near_scale (pos turn_num) n) (alg y (pos turn_num)) (alg z (pos turn_num)) (N.le_refl (turn_num * e))

    side : (x : ℤ) → pos Q *ℤ series (x *ℤ pos turn_num) (pos (Q * turn_den)) ≡ pos Q *ℤ series (x *ℤ pos turn_num) (pos (50 * (Q * u)))
    side x = ap (λ (k : ℕ). pos Q *ℤ series (x *ℤ pos turn_num) (pos k)) (units Q u)
