-- How large our sine and cosine are, so that they fit 33 bits with the sign. Up to nine tenths of a quarter turn the first constant alone bounds
-- the sine; from there on the second constant takes enough off it.
-- Assumes nothing.
use mathlib.Core.List.{List, [], ◌∷◌}
use Prim.Native.Nat.{ℕ, suc, ◌+◌, ◌*◌, ◌-◌, ◌/◌, ◌%◌, ◌^◌, ◌≤◌, ◌<◌}
use native.Mathlib.Nat as N
use native.Mathlib.Omega.{arith}
use lib.Dec.{leb, leb→le, nleb→lt, lit≤}
use lib.IntN.{nat_abs}
use Rattle.algebra.proofs.Tests.{by_test, cond_case}
use Rattle.algebra.proofs.Order.{abs_neg}
use Rattle.sine.specs.Exact.{half_turn, whole_turn}
use Rattle.sine.specs.Ours.{first_constant, other_constants, alternating, quarter_parts, one_part, unit_squares, sine_quarter, quarter_turn, our_sine, our_cosine}

alternating_small : (F z c : ℕ) (ds : List ℕ) → alternating F z c ds ≤ c
unfolding alternating
alternating_small F z c [] = N.le_refl c
alternating_small F z c (d ∷ ds) = N.sub-le c (z * alternating F z d ds / F)

-- the most that our sine and cosine are, in units of 2^-31
abbrev pub sine_most : ℕ
sine_most = 3040000000

-- nine tenths of the parts of a quarter turn
abbrev nine_tenths : ℕ
nine_tenths = 9 * quarter_parts / 10

second_low : (z p : ℕ) → z ≤ 2 ^ 31 → p ≤ 171138612 → 1216058725 ≤ 1387197337 - z * p / 2 ^ 31
second_low z p h k = omega (arith, N.mul-le-mul h k)

first_high : (z p : ℕ) → 1739461750 ≤ z → 1216058725 ≤ p → first_constant - z * p / 2 ^ 31 ≤ 2400000000
first_high z p h k = omega (arith, N.mul-le-mul h k)

sine_quarter_most : (q : ℕ) → q ≤ quarter_parts → sine_quarter q ≤ sine_most
unfolding sine_quarter alternating
sine_quarter_most q h = by_test (leb q nine_tenths) (λ s. low (leb→le q nine_tenths s)) (λ s. high (nleb→lt q nine_tenths s))
  where
    z : ℕ
    z = q * q / unit_squares

    low : q ≤ nine_tenths → q * alternating (2 ^ 31) z first_constant other_constants / quarter_parts ≤ sine_most
    low k = bound (N.mul-le-mul k (alternating_small (2 ^ 31) z first_constant other_constants))
      where
        bound : {n : ℕ} → n ≤ nine_tenths * first_constant → n / quarter_parts ≤ sine_most
        bound k = omega arith

    high : nine_tenths < q → q * alternating (2 ^ 31) z first_constant other_constants / quarter_parts ≤ sine_most
    high k = bound (N.mul-le-mul h (first_high z _ (large (N.mul-le-mul k k)) (second_low z _ (small (N.mul-le-mul h h)) (alternating_small (2 ^ 31) z 171138612 (10053990 ∷ 344545 ∷ 7728 ∷ 122 ∷ 1 ∷ [])))))
      where
        bound : {n : ℕ} → n ≤ quarter_parts * 2400000000 → n / quarter_parts ≤ sine_most
        bound k = omega arith

        large : {n : ℕ} → suc nine_tenths * suc nine_tenths ≤ n → 1739461750 ≤ n / unit_squares
        large k = omega arith

        small : {n : ℕ} → n ≤ quarter_parts * quarter_parts → n / unit_squares ≤ 2 ^ 31
        small k = omega arith

pub sine_most_lem : (b : ℕ) → nat_abs (our_sine b) ≤ sine_most
unfolding our_sine whole_turn quarter_turn
sine_most_lem b =
    cond_case (leb (2 * b) (2 ^ 41)) (λ z. nat_abs z ≤ sine_most) (λ s. half b) (λ s. N.le_trans (N.le_of_eq (abs_neg (half_turn quarter_turn (2 ^ 41) (b - 2 ^ 41 / 2)))) (half (b - 2 ^ 41 / 2)))
  where
    small : (r : ℕ) → r ≤ 2 ^ 39 → sine_quarter (r / one_part) ≤ sine_most
    small r h = sine_quarter_most (r / one_part) (omega arith)

    half : (a : ℕ) → nat_abs (half_turn quarter_turn (2 ^ 41) a) ≤ sine_most
    half a =
        cond_case (leb (4 * a) (2 ^ 41)) (λ z. nat_abs z ≤ sine_most)
        (λ s. small a (low (leb→le (4 * a) (2 ^ 41) s))) (λ s. small (2 ^ 41 / 2 - a) (high (nleb→lt (4 * a) (2 ^ 41) s)))
      where
        low : 4 * a ≤ 2 ^ 41 → a ≤ 2 ^ 39
        low t = omega arith

        high : 2 ^ 41 < 4 * a → 2 ^ 41 / 2 - a ≤ 2 ^ 39
        high t = omega arith

pub cosine_most : (b : ℕ) → nat_abs (our_cosine b) ≤ sine_most
unfolding our_cosine
cosine_most b = sine_most_lem ((b + 2 ^ 39) % 2 ^ 41)

-- 33 bits with the sign
pub sine_below : (b : ℕ) → nat_abs (our_sine b) < 2 ^ 32
sine_below b = N.lt_of_le_of_lt (sine_most_lem b) (lit≤ tt)

pub cosine_below : (b : ℕ) → nat_abs (our_cosine b) < 2 ^ 32
cosine_below b = N.lt_of_le_of_lt (cosine_most b) (lit≤ tt)
