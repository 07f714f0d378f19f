-- Our sine at q of the 2^30 parts of a quarter, against the exact series there. The series is q / 2^30 times the exact alternating sum in the square
-- of q / 2^30, whose constants are (pi/2)^(2k+1) / (2k+1)!. Ours is off by the error of its alternating sum (Alternating), which is computed from the
-- constants, and by one unit for the last product, rounded down.
-- Assumes nothing.
use mathlib.Core.Path.{◌≡◌, refl, sym, ◌∙◌, ap, ap₂}
use mathlib.Core.List.{List, [], ◌∷◌}
use Prim.Native.Nat.{ℕ, suc, ◌+◌, ◌*◌, ◌-◌, ◌/◌, ◌^◌, ◌≤◌, ◌<◌}
use native.Mathlib.Nat as N
use native.Mathlib.Nat.{le_trans, le_of_eq, mul-le-mul}
use native.Mathlib.Omega.{arith}
use lib.Dec.{T, lit≤}
use lib.IntN.{ℤ, pos, ◌-ℤ◌, ◌*ℤ◌, pow}
use Rattle.algebra.specs.Near.{Near}
use Rattle.sine.specs.Series.{factorial, series}
use Rattle.algebra.proofs.Integers.{pow_pos}
use Rattle.algebra.proofs.Polynomial.{Expr, var, ◌⊖◌, ◌⊗◌, ◌↑◌, #, solve}
use Rattle.algebra.proofs.Ring.{end, ◌▸◌, ◌▹◌, ring, quote, ring_n, quoteN}
use Rattle.algebra.proofs.Near.{near_as, near_trans, near_scale}
use Rattle.algebra.proofs.Floor.{near_floor, floor_next}
use Rattle.sine.proofs.Series.{series_e}
use Rattle.sine.specs.Exact.{turn_num, S, sine_den}
use Rattle.sine.specs.Ours.{first_constant, other_constants, alternating, quarter_parts, unit_squares, sine_quarter}
use Rattle.sine.proofs.Alternating.{exact_alternating, power, falling, error, alternating_near}

-- (t / v)^(2k+1) / (2k+1)! times v^23 * 23!, a whole number: with t / v = pi/2 the constants, exactly
abbrev pub part : ℕ → ℕ → ℕ → ℕ
part t v k = t ^ suc (2 * k) * v ^ (22 - 2 * k) * (factorial 23 / factorial (suc (2 * k)))

abbrev pub each : (ℕ → ℕ) → List ℕ → List ℕ
each f [] = []
each f (k ∷ ks) = f k ∷ each f ks

abbrev pub up_to_eleven : List ℕ
up_to_eleven = 1 ∷ 2 ∷ 3 ∷ 4 ∷ 5 ∷ 6 ∷ 7 ∷ 8 ∷ 9 ∷ 10 ∷ 11 ∷ []

abbrev pub parts : ℕ → ℕ → List ℕ
parts t v = each (part t v) up_to_eleven

-- ---- the alternating sum of these is the series

-- the alternating sum by the integers, and as an expression
abbrev powerᶻ : ℤ → List ℕ → ℤ
powerᶻ W [] = pos 1
powerᶻ W (k ∷ ks) = W *ℤ powerᶻ W ks

abbrev exactᶻ : ℤ → ℤ → (ℕ → ℤ) → ℕ → List ℕ → ℤ
exactᶻ W w g k [] = g k
exactᶻ W w g k (j ∷ js) = g k *ℤ (W *ℤ powerᶻ W js) -ℤ w *ℤ exactᶻ W w g j js

power_is : (W : ℕ) (f : ℕ → ℕ) (ks : List ℕ) → pos (power W (each f ks)) ≡ powerᶻ (pos W) ks
power_is W f [] = refl
power_is W f (k ∷ ks) = ap (λ (z : ℤ). pos W *ℤ z) (power_is W f ks)

exact_is : (W w : ℕ) (f : ℕ → ℕ) (g : ℕ → ℤ) → ((k : ℕ) → pos (f k) ≡ g k) → (k : ℕ) (ks : List ℕ)
    → exact_alternating W w (f k) (each f ks) ≡ exactᶻ (pos W) (pos w) g k ks
exact_is W w f g h k [] = h k
exact_is W w f g h k (j ∷ js) =
    ap₂ ◌-ℤ◌ (ap₂ (λ (x y : ℤ). x *ℤ (pos W *ℤ y)) (h k) (power_is W f js)) (ap (λ (z : ℤ). pos w *ℤ z) (exact_is W w f g h j js))

partᶻ : ℤ → ℤ → ℕ → ℤ
partᶻ t v k = pow t (suc (2 * k)) *ℤ pow v (22 - 2 * k) *ℤ pos (factorial 23 / factorial (suc (2 * k)))

part_is : (t v k : ℕ) → pos (part t v k) ≡ partᶻ (pos t) (pos v) k
unfolding partᶻ
part_is t v k = ap₂ (λ (x y : ℤ). x *ℤ y *ℤ pos (factorial 23 / factorial (suc (2 * k)))) (sym (pow_pos t (suc (2 * k)))) (sym (pow_pos v (22 - 2 * k)))

abbrev power_e : Expr → List ℕ → Expr
power_e W [] = # 1
power_e W (k ∷ ks) = W ⊗ power_e W ks

abbrev exact_e : Expr → Expr → (ℕ → Expr) → ℕ → List ℕ → Expr
exact_e W w g k [] = g k
exact_e W w g k (j ∷ js) = g k ⊗ (W ⊗ power_e W js) ⊖ w ⊗ exact_e W w g j js

series_isᶻ : (q r t v : ℤ) → series (q *ℤ t) (r *ℤ v) ≡ q *ℤ exactᶻ (r *ℤ r) (q *ℤ q) (partᶻ t v) 0 up_to_eleven
unfolding partᶻ
series_isᶻ q r t v = solve
    (series_e (var 0 ⊗ var 2) (var 1 ⊗ var 3))
    (var 0 ⊗ exact_e (var 1 ⊗ var 1) (var 0 ⊗ var 0) (λ k. var 2 ↑ suc (2 * k) ⊗ var 3 ↑ (22 - 2 * k) ⊗ # (factorial 23 / factorial (suc (2 * k)))) 0 up_to_eleven)
    (q ▸ r ▸ t ▸ v ▸ end) tt

series_is : (q r t v : ℕ) → series (pos (q * t)) (pos (r * v)) ≡ pos q *ℤ exact_alternating (r * r) (q * q) (part t v 0) (parts t v)
series_is q r t v =
    series_isᶻ (pos q) (pos r) (pos t) (pos v)
    ∙ ap (λ (z : ℤ). pos q *ℤ z) (sym (exact_is (r * r) (q * q) (part t v) (partᶻ (pos t) (pos v)) (part_is t v) 0 up_to_eleven))

-- a hundredth of v^23 * 23!, at v = 100 * u
abbrev pub hundredth : ℕ → ℕ
hundredth u = u * (100 * u) ^ 22 * factorial 23

den_is : (r t u : ℕ) → (r * (100 * u)) ^ 23 * factorial 23 ≡ r * (100 * (hundredth u * power (r * r) (parts t (100 * u))))
den_is r t u = ring_n (r ▹ t ▹ u ▹ end) (search quoteN depth 60 fits 9000) tt

-- ---- our sine of q of r parts of a quarter, in units of 1 / F, at any numbers

-- the last product, q / r times the alternating sum, rounded down
last_product : (F r K e q p : ℕ) (n : ℤ) → 0 < r → q ≤ r → Near (pos p *ℤ pos (100 * K)) (n *ℤ pos F) (e * K)
    → Near (pos (q * p / r) *ℤ pos (r * (100 * K))) (pos q *ℤ n *ℤ pos F) ((100 + e) * (r * K))
last_product F r K e q p n hr hq h =
    near_as (near_trans (near_scale (pos (100 * K)) (near_floor (q * p) r hr)) (near_as (near_scale (pos q) h) (ring (pos K ▸ pos q ▸ pos p ▸ end) (search quote depth 13) tt) refl bound))
    (alg (pos (q * p / r)) (pos r) (pos K)) (ring (pos q ▸ n ▸ pos F ▸ end) (search quote depth 13) tt) (omega (arith, N.mul-le-mul_left (100 * K) (N.sub-le r 1)))
  where
    alg : (s r k : ℤ) → s *ℤ (r *ℤ (pos 100 *ℤ k)) ≡ pos 100 *ℤ k *ℤ (s *ℤ r)
    alg s r k = ring (s ▸ r ▸ k ▸ end) (search quote depth 13) tt

    bound : q * (e * K) ≤ r * (e * K)
    bound = N.mul-le-mul_right (e * K) hq

-- F times s is r²: a square of r is F of s parts
series_near : (F r s t u c : ℕ) (ds : List ℕ) → 0 < F → 0 < r → 0 < s → 0 < hundredth u → r * r ≡ F * s
    → T (falling c ds (parts t (100 * u))) → (q : ℕ) → q ≤ r
    → (e : ℕ) → 100 + error F (hundredth u) c ds (part t (100 * u) 0) (parts t (100 * u)) ≤ e * 100
    → Near (pos (q * alternating F (q * q / s) c ds / r) *ℤ pos ((r * (100 * u)) ^ 23 * factorial 23)) (series (pos (q * t)) (pos (r * (100 * u))) *ℤ pos F) (e * ((r * (100 * u)) ^ 23 * factorial 23))
series_near F r s t u c ds hF hr hs hm rs test q hq e he =
    near_as (last_product F r (hundredth u * W) (error F (hundredth u) c ds (part t (100 * u) 0) (parts t (100 * u))) q (alternating F z c ds) (exact_alternating (r * r) (q * q) (part t (100 * u) 0) (parts t (100 * u))) hr hq near_alternating)
    (ap (λ (k : ℕ). pos (q * alternating F z c ds / r) *ℤ pos k) (den_is r t u)) (ap (λ (x : ℤ). x *ℤ pos F) (series_is q r t (100 * u)))
    (le_trans (N.mul-le-mul_right (r * (hundredth u * W)) he) (le_of_eq (alg e r (hundredth u * W) ∙ ap (λ (k : ℕ). e * k) (sym (den_is r t u)))))
  where
    z : ℕ
    z = q * q / s

    squares : q * q ≤ r * r
    squares = mul-le-mul hq hq

    alg₁ : (z f s : ℤ) → z *ℤ (f *ℤ s) ≡ f *ℤ (z *ℤ s)
    alg₁ z f s = ring (z ▸ f ▸ s ▸ end) (search quote depth 13) tt

    alg₂ : (w f : ℤ) → w *ℤ f ≡ f *ℤ w
    alg₂ w f = ring (w ▸ f ▸ end) (search quote depth 13) tt

    alg : (e r k : ℕ) → e * 100 * (r * k) ≡ e * (r * (100 * k))
    alg e r k = ring_n (e ▹ r ▹ k ▹ end) (search quoteN depth 13) tt

    z_near : Near (pos z *ℤ pos (r * r)) (pos (q * q) *ℤ pos F) (r * r)
    z_near = near_as (near_scale (pos F) (near_floor (q * q) s hs)) (ap (λ (k : ℕ). pos z *ℤ pos k) rs ∙ alg₁ (pos z) (pos F) (pos s))
        (alg₂ (pos (q * q)) (pos F)) (le_trans (N.mul-le-mul_left F (N.sub-le s 1)) (le_of_eq (sym rs)))

    z_small : z ≤ F
    z_small = N.div-le_of_le-mul s (le_trans squares (le_of_eq (rs ∙ N.mul_comm F s)))

    W : ℕ
    W = power (r * r) (parts t (100 * u))

    near_alternating : Near (pos (alternating F z c ds) *ℤ pos (100 * (hundredth u * W))) (exact_alternating (r * r) (q * q) (part t (100 * u) 0) (parts t (100 * u)) *ℤ pos F)
        (error F (hundredth u) c ds (part t (100 * u) 0) (parts t (100 * u)) * (hundredth u * W))
    near_alternating = (alternating_near F (r * r) (q * q) z (hundredth u) hF hm squares z_small z_near c ds (part t (100 * u) 0) (parts t (100 * u)) test).close

-- ---- at ours

-- a quarter turn in radians is turn_num / (100 * quarter_den)
abbrev quarter_den : ℕ
quarter_den = 4 * 10 ^ 22

-- the error in hundredths of a unit of 2^-31, worked out from the constants
abbrev hundredths : ℕ
hundredths = 100 + error (2 ^ 31) (hundredth quarter_den) first_constant other_constants (part turn_num (100 * quarter_den) 0) (parts turn_num (100 * quarter_den))

-- in units, rounded up
unfoldable pub routine_error : ℕ
routine_error = suc (hundredths / 100)

pub quarter_near : (q : ℕ) → q ≤ quarter_parts
    → Near (pos (sine_quarter q) *ℤ pos (sine_den (4 * quarter_parts))) (S (4 * quarter_parts) q *ℤ pos (2 ^ 31)) (routine_error * sine_den (4 * quarter_parts))
unfolding S sine_den sine_quarter routine_error
quarter_near q h =
    series_near (2 ^ 31) quarter_parts unit_squares turn_num quarter_den first_constant other_constants (lit≤ tt) (lit≤ tt) (lit≤ tt) (lit≤ tt) refl tt q h routine_error
    (floor_next hundredths 100 (lit≤ tt))
