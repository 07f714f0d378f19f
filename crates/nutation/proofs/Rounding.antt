-- The uncertainty, exact: rounded up in two steps that 64 bits hold. (a e + b) / (p e), rounded up, is (a + b / e) / p, where b / e is rounded up first and
-- then the whole: e is the microseconds of a day, a and p count whole days, and b is the rest.
-- Assumes nothing.
use mathlib.Core.Path.{◌≡◌, sym, ◌∙◌, ap, ap₂}
use Prim.Native.Nat.{ℕ, ◌+◌, ◌*◌, ◌-◌, ◌/◌, ◌%◌, ◌≤◌, ◌<◌}
use native.Mathlib.Nat as N
use native.Mathlib.Omega.{arith}
use lib.Dec.{lit≤}
use Rattle.instants.specs.Limits.{day_micros}
use Rattle.algebra.specs.Integers.{dist}
use Rattle.algebra.proofs.Ring.{end, ◌▹◌, ring_n, quoteN}
use Rattle.rows.specs.declared.Row.{Row}
use Rattle.rows.specs.declared.Place.TheVariants.{End, Between}
use Rattle.rows.specs.Places.{row_moment, span}
use Rattle.nutation.specs.Exact.{u_value, u_parts, round_up, uncertainty_at}
use lib.IntN.{nat_abs}
use Rattle.rows.specs.Inner.{Inside}
use Rattle.rows.proofs.Interpolated.{weighted}
use Rattle.nutation.specs.Inner.{twice_between}
use Rattle.nutation.proofs.Sizes.{inside_span}

-- ---- at or outside an end

pub end_is : (r : Row) (x : ℕ) → uncertainty_at (End r) x ≡ 20 * r.uncertainty + round_up (265 * dist x (row_moment r)) day_micros
unfolding uncertainty_at u_value u_parts
end_is r x = go r.uncertainty (dist x (row_moment r))
  where
    go : (u k : ℕ) → round_up (2 * (10 * (u * (100 * day_micros) + 1325 * k))) (100 * day_micros) ≡ 20 * u + round_up (265 * k) day_micros
    go u k = omega arith

-- ---- between two rows

-- what is interpolated between two natural numbers is one, so that the absolute value changes nothing
pub value_natural : (a b : Row) (x : ℕ) → Inside a b x → u_value (Between a b) x ≡ a.uncertainty * (row_moment b - x) + b.uncertainty * (x - row_moment a)
unfolding u_value
value_natural a b x h = ap nat_abs (weighted a b x h)

pub between_is : (a b : Row) (x : ℕ) → Inside a b x
    → uncertainty_at (Between a b) x ≡ twice_between a.uncertainty b.uncertainty ((b.day - a.day) * day_micros) (x - row_moment a)
unfolding uncertainty_at u_parts span twice_between
between_is a b x h = ap (λ (k : ℕ). round_up (2 * (10 * k)) (u_parts (Between a b))) (value_natural a b x h) ∙ go (row_moment a) (row_moment b) h.low (inside_span a b x h)
  where
    u : ℕ
    u = a.uncertainty

    v : ℕ
    v = b.uncertainty

    left : (s t : ℕ) {w : ℕ} → s ≤ x → t - s ≡ w → t - x ≡ w - (x - s)
    left s t h e = omega arith

    twice : (k : ℕ) → 2 * (10 * k) ≡ 20 * k
    twice k = omega arith

    go : (s t : ℕ) {w : ℕ} → s ≤ x → t - s ≡ w → round_up (2 * (10 * (u * (t - x) + v * (x - s)))) (t - s) ≡ round_up (20 * (u * (w - (x - s)) + v * (x - s))) w
    go s t h e = ap₂ round_up (ap (λ (k : ℕ). 2 * (10 * (u * k + v * (x - s)))) (left s t h e) ∙ twice _) e

-- ---- rounding up, by what it is between

pub round_up_low : (n d : ℕ) → 0 < d → n ≤ round_up n d * d
round_up_low n d h = omega (arith, N.lt-div-mul-add {a = n + (d - 1)} h)

round_up_high : (n d : ℕ) → 0 < d → round_up n d * d < n + d
round_up_high n d h = omega (arith, N.div-mul-le_self (n + (d - 1)) d)

round_up_is : (n d q : ℕ) → 0 < d → n ≤ q * d → q * d < n + d → round_up n d ≡ q
round_up_is n d q h lo hi = N.div-eq_of_lt-le d (omega arith) (omega arith)

-- in two steps: the numerator is a * e + b, and the denominator p * e
round_up_twice : (a b p e : ℕ) → 0 < p → 0 < e → round_up (a * e + b) (p * e) ≡ round_up (a + round_up b e) p
round_up_twice a b p e hp he = round_up_is (a * e + b) (p * e) q (N.mul-pos hp he) (low (round_up_low (a + c) p hp) (round_up_low b e he)) (high (round_up_high (a + c) p hp) (round_up_high b e he))
  where
    c : ℕ
    c = round_up b e

    q : ℕ
    q = round_up (a + c) p

    low : a + c ≤ q * p → b ≤ c * e → a * e + b ≤ q * (p * e)
    low h k = omega (arith, N.mul-le-mul_right e h)

    high : q * p < a + c + p → c * e < b + e → q * (p * e) < a * e + b + p * e
    high h k = omega (arith, N.mul-le-mul_right e h)

-- whole days and the rest, each rounded up
pub between_steps : (u v p n : ℕ) → 0 < p → n < p * day_micros
    → round_up (20 * (u * (p - 1 - n / day_micros) + v * (n / day_micros)) + round_up (20 * (u * (day_micros - n % day_micros) + v * (n % day_micros))) day_micros) p
    ≡ twice_between u v (p * day_micros) n
unfolding twice_between
between_steps u v p n hp hn =
    sym (ap (λ (k : ℕ). round_up k (p * day_micros)) whole
    ∙ round_up_twice (20 * (u * (p - 1 - n / day_micros) + v * (n / day_micros))) (20 * (u * (day_micros - n % day_micros) + v * (n % day_micros))) p day_micros hp (lit≤ tt))
  where
    left : p * day_micros - n ≡ (p - 1 - n / day_micros) * day_micros + (day_micros - n % day_micros)
    left = omega arith

    right : n ≡ n / day_micros * day_micros + n % day_micros
    right = omega arith

    alg : (u v a b c d e : ℕ) → 20 * (u * (a * e + b) + v * (c * e + d)) ≡ 20 * (u * a + v * c) * e + 20 * (u * b + v * d)
    alg u v a b c d e = ring_n (u ▹ v ▹ a ▹ b ▹ c ▹ d ▹ e ▹ end) (search quoteN depth 13) tt

    whole : 20 * (u * (p * day_micros - n) + v * n) ≡ 20 * (u * (p - 1 - n / day_micros) + v * (n / day_micros)) * day_micros + 20 * (u * (day_micros - n % day_micros) + v * (n % day_micros))
    whole = ap₂ (λ (j k : ℕ). 20 * (u * j + v * k)) left right ∙ alg u v (p - 1 - n / day_micros) (day_micros - n % day_micros) (n / day_micros) (n % day_micros) day_micros
