-- The cases of our sine, as the code goes by them: the angle reduced to a quarter turn, by the quarter it is in, and the sign; and that a quarter turn
-- more is in the next quarter, reduced to what is left, so that one reduction serves the sine and the cosine. Assumes nothing.
use mathlib.Core.Path.{◌≡◌, refl, sym, ◌∙◌, ap}
use mathlib.Core.Bool.{Bool, true, false, cond}
use Prim.Native.Nat.{ℕ, ◌+◌, ◌*◌, ◌-◌, ◌/◌, ◌%◌, ◌^◌, ◌≤◌, ◌<◌}
use native.Mathlib.Decide.{dec_le}
use native.Mathlib.Omega.{arith}
use lib.Dec.{T, leb, le→leb, leb→le}
use lib.IntN.{ℤ, pos, neg_ℤ}
use Rattle.sine.specs.Exact.{half_turn, whole_turn}
use Rattle.sine.specs.Ours.{one_part, sine_quarter, quarter_turn, our_sine}
use Rattle.sine.specs.Inner.{Reduced, first, second, third, fourth}

-- ---- a test that is known

yes_is : (b : Bool) (x y : ℤ) → T b → cond b x y ≡ x
yes_is true x y t = refl
yes_is false x y t = absurd t

no_is : (b : Bool) (x y : ℤ) → (T b → ⊥) → cond b x y ≡ y
no_is true x y f = absurd (f tt)
no_is false x y f = refl

half_low : (a v : ℕ) → a ≤ 2 ^ 39 → v ≡ sine_quarter (a / one_part) → pos v ≡ half_turn quarter_turn (2 ^ 41) a
unfolding quarter_turn
half_low a v h e = ap pos e ∙ sym (yes_is (leb (4 * a) (2 ^ 41)) (quarter_turn a) (quarter_turn (2 ^ 41 / 2 - a)) (le→leb (4 * a) (2 ^ 41) (omega arith)))

half_high : (a v : ℕ) → 2 ^ 39 < a → v ≡ sine_quarter ((2 ^ 40 - a) / one_part) → pos v ≡ half_turn quarter_turn (2 ^ 41) a
unfolding quarter_turn
half_high a v h e = ap pos e ∙ sym (no_is (leb (4 * a) (2 ^ 41)) (quarter_turn a) (quarter_turn (2 ^ 41 / 2 - a)) (λ t. over (leb→le (4 * a) (2 ^ 41) t)))
  where
    over : 4 * a ≤ 2 ^ 41 → ⊥
    over k = omega arith

whole_low : (a : ℕ) → a ≤ 2 ^ 40 → half_turn quarter_turn (2 ^ 41) a ≡ our_sine a
unfolding our_sine whole_turn
whole_low a h = sym (yes_is (leb (2 * a) (2 ^ 41)) (half_turn quarter_turn (2 ^ 41) a) (neg_ℤ (half_turn quarter_turn (2 ^ 41) (a - 2 ^ 41 / 2))) (le→leb (2 * a) (2 ^ 41) (omega arith)))

whole_high : (a : ℕ) → 2 ^ 40 < a → neg_ℤ (half_turn quarter_turn (2 ^ 41) (a - 2 ^ 40)) ≡ our_sine a
unfolding our_sine whole_turn
whole_high a h = sym (no_is (leb (2 * a) (2 ^ 41)) (half_turn quarter_turn (2 ^ 41) a) (neg_ℤ (half_turn quarter_turn (2 ^ 41) (a - 2 ^ 41 / 2))) (λ t. over (leb→le (2 * a) (2 ^ 41) t)))
  where
    over : 2 * a ≤ 2 ^ 41 → ⊥
    over k = omega arith

-- ---- the sine as the code makes it: the angle a reduced to r, the sine v there, and its sign

module _ (a r v : ℕ) (s : ℤ) (e : v ≡ sine_quarter (r / one_part)) (up : a ≤ 2 ^ 40 → s ≡ pos v) (down : 2 ^ 40 < a → s ≡ neg_ℤ (pos v)) where
  -- v at another name of the reduced angle
  at : {q : ℕ} → r ≡ q → v ≡ sine_quarter (q / one_part)
  at p = e ∙ ap (λ (n : ℕ). sine_quarter (n / one_part)) p

  pub sine_by : Reduced a r → s ≡ our_sine a
  sine_by (first h p) = up (omega arith) ∙ half_low a v h (at p) ∙ whole_low a (omega arith)
  sine_by (second h k p) = up k ∙ half_high a v h (at p) ∙ whole_low a k
  sine_by (third h k p) = down h ∙ ap neg_ℤ (half_low (a - 2 ^ 40) v (omega arith) (at p)) ∙ whole_high a h
  sine_by (fourth h k p) = let l : 2 ^ 40 < a = omega arith in down l ∙ ap neg_ℤ (half_high (a - 2 ^ 40) v (omega arith) (at (p ∙ omega arith))) ∙ whole_high a l

-- ---- a quarter turn more is in the next quarter, and reduced to what is left of the quarter turn

pub quarter_more : (a r : ℕ) → a < 2 ^ 41 → Reduced a r → Reduced ((a + 2 ^ 39) % 2 ^ 41) (2 ^ 39 - r)
quarter_more a r l (first h p) = by (dec_le 1 a)
  where
    by : Dec (1 ≤ a) → Reduced ((a + 2 ^ 39) % 2 ^ 41) (2 ^ 39 - r)
    by (yes q) = second (omega arith) (omega arith) (omega arith)
    by (no q) = first (omega (arith, q)) (omega (arith, q))
quarter_more a r l (second h k p) = third (omega arith) (omega arith) (omega arith)
quarter_more a r l (third h k p) = by (dec_le (3 * 2 ^ 39) a)
  where
    by : Dec (3 * 2 ^ 39 ≤ a) → Reduced ((a + 2 ^ 39) % 2 ^ 41) (2 ^ 39 - r)
    by (yes q) = first (omega arith) (omega arith)
    by (no q) = fourth (omega (arith, q)) (omega arith) (omega (arith, q))
quarter_more a r l (fourth h k p) = first (omega arith) (omega arith)
