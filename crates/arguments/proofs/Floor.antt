-- Two steps of a polynomial in whole numbers, rounded down, against the exact ones: a quotient by W of a product with a constant, and a
-- product with a number in fixed point. Every distance is a whole number over a common denominator, and is computed from the constants.
-- Assumes nothing.
use mathlib.Core.Path.{refl, ap}
use Prim.Native.Nat.{ℕ, ◌+◌, ◌*◌, ◌-◌, ◌/◌, ◌≤◌, ◌<◌}
use native.Mathlib.Nat as N
use native.Mathlib.Nat.{le_trans, add-le-add}
use native.Mathlib.Omega.{arith}
use lib.IntN.{pos}
use Rattle.algebra.specs.Near.{Near}
use Rattle.algebra.proofs.Ring.{end, ◌▹◌, ring_n, quoteN}
use Rattle.algebra.proofs.Near.{near_as, near_trans, near_scale, near_unscale, near_mul}
use Rattle.algebra.proofs.Floor.{near_floor}

-- ---- x·K / W rounded down, for a constant K near W·p / d

abbrev pub high_error : (W d X E : ℕ) → ℕ
high_error W d X E = d + X * E / W + 1

pub high_near : (W d p K E X x : ℕ) → 0 < W → x ≤ X → Near (pos (K * d)) (pos (W * p)) E
    → Near (pos (x * K / W * d)) (pos (p * x)) (high_error W d X E)
high_near W d p K E X x w b n =
    near_unscale W (near_as (near_trans floored scaled)
    (ap pos (ring_n (W ▹ q ▹ d ▹ end) (search quoteN depth 13) tt))
    (ap pos (ring_n (W ▹ p ▹ x ▹ end) (search quoteN depth 13) tt)) errors) w
  where
    q : ℕ
    q = x * K / W

    floored : Near (pos (d * (q * W))) (pos (d * (x * K))) (d * (W - 1))
    floored = near_scale (pos d) (near_floor (x * K) W w)

    scaled : Near (pos (d * (x * K))) (pos (x * (W * p))) (X * E)
    scaled = near_as (near_scale (pos x) n) (ap pos (ring_n (d ▹ x ▹ K ▹ end) (search quoteN depth 13) tt)) refl (N.mul-le-mul_right E b)

    errors : d * (W - 1) + X * E ≤ W * (d + X * E / W + 1) + 0
    errors = omega (arith, N.lt-div-mul-add {a = X * E} w, N.mul-le-mul_left d (N.sub-le W 1))

-- ---- s·h / (S·c) rounded down, where s is near S·x / D and h is near n / M

abbrev pub step_error : (S D c M F E B C : ℕ) → ℕ
step_error S D c M F E B C = c * D * M + (F * B + C * E) / S + 1

pub step_near : (S D c M F E B C s x h n : ℕ) → 0 < S → 0 < c → n ≤ B → s * D ≤ C
    → Near (pos (s * D)) (pos (S * x)) F → Near (pos (h * M)) (pos n) E
    → Near (pos (s * h / (S * c) * (c * D * M))) (pos (x * n)) (step_error S D c M F E B C)
step_near S D c M F E B C s x h n zs zc bn bs ns nh =
    near_unscale S (near_as (near_trans floored product)
    (ap pos (ring_n (S ▹ D ▹ c ▹ M ▹ q ▹ end) (search quoteN depth 13) tt))
    (ap pos (ring_n (S ▹ x ▹ n ▹ end) (search quoteN depth 13) tt)) errors) zs
  where
    q : ℕ
    q = s * h / (S * c)

    zz : 0 < S * c
    zz = N.mul-pos zs zc

    floored : Near (pos (D * M * (q * (S * c)))) (pos (D * M * (s * h))) (D * M * (S * c - 1))
    floored = near_scale (pos (D * M)) (near_floor (s * h) (S * c) zz)

    product : Near (pos (D * M * (s * h))) (pos (S * x * n)) (F * B + C * E)
    product = near_as (near_mul B C bn bs ns nh) (ap pos (ring_n (D ▹ M ▹ s ▹ h ▹ end) (search quoteN depth 13) tt)) refl (N.le_refl (F * B + C * E))

    errors : D * M * (S * c - 1) + (F * B + C * E) ≤ S * (c * D * M + (F * B + C * E) / S + 1) + 0
    errors = le_trans (add-le-add (N.mul-le-mul_left (D * M) (N.sub-le (S * c) 1)) (N.le_refl (F * B + C * E)))
        (omega (arith, N.lt-div-mul-add {a = F * B + C * E} zs))
