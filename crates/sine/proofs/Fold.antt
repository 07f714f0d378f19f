-- An angle folded to a quarter on either side of zero: A, Q/2 - A or A - Q, of which the sine is the same. The fold of two angles that are
-- within e of one another, whole turns apart or not, is within e: in one turn by the nine cases of two folds, whose slopes are 1 and -1, and across
-- the end of a turn by way of the fold there, which is 0.
-- Assumes nothing.
use mathlib.Core.Path.{◌≡◌, refl, sym, ◌∙◌, ap}
use mathlib.Core.Bool.{Bool, true, false, cond}
use Prim.Native.Nat.{ℕ, zero, suc, ◌+◌, ◌*◌, ◌-◌, ◌/◌, ◌≤◌, ◌<◌}
use native.Mathlib.Nat as N
use native.Mathlib.Omega.{arith}
use lib.Dec.{leb, leb→le, nleb→lt}
use lib.IntN.{ℤ, pos, negsuc, neg_ℤ, ◌+ℤ◌, ◌-ℤ◌, ◌*ℤ◌, nat_abs}
use Rattle.algebra.specs.Near.{Near}
use Rattle.algebra.proofs.Tests.{cond_case}
use Rattle.algebra.proofs.Ring.{end, ◌▸◌, ring, quote}
use Rattle.algebra.proofs.Order.{linear, of_ℕ, eq_of_ℕ}
use Rattle.algebra.proofs.Near.{near_of, ℕ-near, near_as, near_sym, near_trans, near_wide, near_add, near_refl}
use Rattle.sine.specs.Exact.{whole_turn}

-- z is the fold of A, where a turn is 4 * P
pub data Fold (P A : ℕ) (z : ℤ) : Type 0 where
  rise : A ≤ P → z ≡ pos A -ℤ pos 0 → Fold P A z
  fall : P ≤ A → A ≤ 3 * P → z ≡ pos (2 * P) -ℤ pos A → Fold P A z
  back : 3 * P ≤ A → A ≤ 4 * P → z ≡ pos A -ℤ pos (4 * P) → Fold P A z

pub fold_is : (P A : ℕ) → A ≤ 4 * P → Fold P A (whole_turn pos (4 * P) A)
unfolding whole_turn
fold_is P A h = cond_case (leb (2 * A) (4 * P)) (Fold P A)
    (λ s. cond_case (leb (4 * A) (4 * P)) (Fold P A) (λ t. one (leb→le (4 * A) (4 * P) t)) (λ t. two (leb→le (2 * A) (4 * P) s) (nleb→lt (4 * A) (4 * P) t)))
    (λ s. cond_case (leb (4 * (A - 4 * P / 2)) (4 * P)) (λ z. Fold P A (neg_ℤ z))
    (λ t. three (nleb→lt (2 * A) (4 * P) s) (leb→le (4 * (A - 4 * P / 2)) (4 * P) t)) (λ t. four (nleb→lt (2 * A) (4 * P) s) (nleb→lt (4 * (A - 4 * P / 2)) (4 * P) t)))
  where
    one : 4 * A ≤ 4 * P → Fold P A (pos A)
    one t = rise (omega arith) (eq_of_ℕ (search linear) (omega arith))

    two : 2 * A ≤ 4 * P → 4 * P < 4 * A → Fold P A (pos (4 * P / 2 - A))
    two s t = fall (omega arith) (omega arith) (eq_of_ℕ (search linear) (omega arith))

    three : 4 * P < 2 * A → 4 * (A - 4 * P / 2) ≤ 4 * P → Fold P A (neg_ℤ (pos (A - 4 * P / 2)))
    three s t = fall (omega arith) (omega arith) (eq_of_ℕ (search linear) (omega arith))

    four : 4 * P < 2 * A → 4 * P < 4 * (A - 4 * P / 2) → Fold P A (neg_ℤ (pos (4 * P / 2 - (A - 4 * P / 2))))
    four s t = back (omega arith) (omega arith) (eq_of_ℕ (search linear) (omega arith))

-- what is odd can be taken of the fold
pub odd_turn : (F : ℤ → ℤ) → ((n : ℕ) → F (neg_ℤ (pos n)) ≡ neg_ℤ (F (pos n))) → (Q A : ℕ) → whole_turn (λ n. F (pos n)) Q A ≡ F (whole_turn pos Q A)
unfolding whole_turn
odd_turn F odd Q A = go (leb (2 * A) Q) (leb (4 * A) Q) (leb (4 * (A - Q / 2)) Q)
  where
    go : (a b c : Bool) → cond a (cond b (F (pos A)) (F (pos (Q / 2 - A)))) (neg_ℤ (cond c (F (pos (A - Q / 2))) (F (pos (Q / 2 - (A - Q / 2))))))
        ≡ F (cond a (cond b (pos A) (pos (Q / 2 - A))) (neg_ℤ (cond c (pos (A - Q / 2)) (pos (Q / 2 - (A - Q / 2))))))
    go true true c = refl
    go true false c = refl
    go false b true = sym (odd (A - Q / 2))
    go false b false = sym (odd (Q / 2 - (A - Q / 2)))

-- the same fold at c times as many parts of the turn
pub fold_scale : (c : ℕ) {P A : ℕ} {z : ℤ} → Fold P A z → Fold (c * P) (c * A) (pos c *ℤ z)
fold_scale c {P} {A} {z} (rise h e) = rise (N.mul-le-mul_left c h) (ap (λ (y : ℤ). pos c *ℤ y) e ∙ alg (pos c) (pos A))
  where
    alg : (c a : ℤ) → c *ℤ (a -ℤ pos 0) ≡ c *ℤ a -ℤ pos 0
    alg c a = ring (c ▸ a ▸ end) (search quote depth 13) tt
fold_scale c {P} {A} {z} (fall h k e) =
    fall (N.mul-le-mul_left c h) (omega (arith, N.mul-le-mul_left c k)) (ap (λ (y : ℤ). pos c *ℤ y) e ∙ alg (pos c) (pos A) (pos P))
  where
    alg : (c a p : ℤ) → c *ℤ (pos 2 *ℤ p -ℤ a) ≡ pos 2 *ℤ (c *ℤ p) -ℤ c *ℤ a
    alg c a p = ring (c ▸ a ▸ p ▸ end) (search quote depth 13) tt
fold_scale c {P} {A} {z} (back h k e) =
    back (omega (arith, N.mul-le-mul_left c h)) (omega (arith, N.mul-le-mul_left c k)) (ap (λ (y : ℤ). pos c *ℤ y) e ∙ alg (pos c) (pos A) (pos P))
  where
    alg : (c a p : ℤ) → c *ℤ (a -ℤ pos 4 *ℤ p) ≡ c *ℤ a -ℤ pos 4 *ℤ (c *ℤ p)
    alg c a p = ring (c ▸ a ▸ p ▸ end) (search quote depth 13) tt

abs_diff : (u d e : ℕ) → u ≤ d + e → d ≤ u + e → nat_abs (pos u -ℤ pos d) ≤ e
abs_diff u d e h k = (near_of {x = pos u} {y = pos d} {e = e} (of_ℕ (search linear) (omega arith)) (of_ℕ (search linear) (omega arith))).by

-- the fold is at most a quarter
pub fold_small : {P A : ℕ} {z : ℤ} → Fold P A z → nat_abs z ≤ P
fold_small {P} {A} (rise h e) = N.le_trans (N.le_of_eq (ap nat_abs e)) (abs_diff A 0 P (omega arith) (omega arith))
fold_small {P} {A} (fall h k e) = N.le_trans (N.le_of_eq (ap nat_abs e)) (abs_diff (2 * P) A P (omega arith) (omega arith))
fold_small {P} {A} (back h k e) = N.le_trans (N.le_of_eq (ap nat_abs e)) (abs_diff A (4 * P) P (omega arith) (omega arith))

-- ---- near angles have near folds

near_diff : {e : ℕ} (u d v f : ℕ) → u + f ≤ v + d + e → v + d ≤ u + f + e → Near (pos u -ℤ pos d) (pos v -ℤ pos f) e
near_diff {e} u d v f h k = near_of {x = pos u -ℤ pos d} {y = pos v -ℤ pos f} (of_ℕ (search linear) (omega arith)) (of_ℕ (search linear) (omega arith))

-- in one turn
same : {P B C e : ℕ} {y z : ℤ} → B ≤ C + e → C ≤ B + e → Fold P B y → Fold P C z → Near y z e
same {P} {B} {C} {e} h k (rise a p) (rise b q) = near_as (near_diff B 0 C 0 (omega arith) (omega arith)) p q (N.le_refl e)
same {P} {B} {C} {e} h k (rise a p) (fall b b' q) = near_as (near_diff B 0 (2 * P) C (omega arith) (omega arith)) p q (N.le_refl e)
same {P} {B} {C} {e} h k (rise a p) (back b b' q) = near_as (near_diff B 0 C (4 * P) (omega arith) (omega arith)) p q (N.le_refl e)
same {P} {B} {C} {e} h k (fall a a' p) (rise b q) = near_as (near_diff (2 * P) B C 0 (omega arith) (omega arith)) p q (N.le_refl e)
same {P} {B} {C} {e} h k (fall a a' p) (fall b b' q) = near_as (near_diff (2 * P) B (2 * P) C (omega arith) (omega arith)) p q (N.le_refl e)
same {P} {B} {C} {e} h k (fall a a' p) (back b b' q) = near_as (near_diff (2 * P) B C (4 * P) (omega arith) (omega arith)) p q (N.le_refl e)
same {P} {B} {C} {e} h k (back a a' p) (rise b q) = near_as (near_diff B (4 * P) C 0 (omega arith) (omega arith)) p q (N.le_refl e)
same {P} {B} {C} {e} h k (back a a' p) (fall b b' q) = near_as (near_diff B (4 * P) (2 * P) C (omega arith) (omega arith)) p q (N.le_refl e)
same {P} {B} {C} {e} h k (back a a' p) (back b b' q) = near_as (near_diff B (4 * P) C (4 * P) (omega arith) (omega arith)) p q (N.le_refl e)

-- around the end of the turn, where the fold is 0
around : {P B C e : ℕ} {y z : ℤ} → B ≤ 4 * P → C + 4 * P ≤ B + e → Fold P B y → Fold P C z → Near y z e
around {P} {B} {C} {e} u h f g =
    near_wide (near_trans (same {e = 4 * P - B} (omega arith) (omega arith) f end_fold) (same {e = C} (omega arith) (omega arith) zero_fold g)) (omega arith)
  where
    alg : (p : ℤ) → pos 0 ≡ p -ℤ p
    alg p = ring (p ▸ end) (search quote depth 13) tt

    end_fold : Fold P (4 * P) (pos 0)
    end_fold = back (omega arith) (omega arith) (alg (pos (4 * P)))

    zero_fold : Fold P 0 (pos 0)
    zero_fold = rise (omega arith) (alg (pos 0))

-- t turns apart
pub fold_near : {P B C e : ℕ} {y z : ℤ} (t : ℤ) → B ≤ 4 * P → C ≤ 4 * P → Near (pos B) (pos C +ℤ t *ℤ pos (4 * P)) e → Fold P B y → Fold P C z → Near y z e
fold_near {P} {B} {C} {e} (pos zero) u v n f g = let m = ℕ-near (near_as n refl (alg (pos C) (pos (4 * P))) (N.le_refl e)) in same m.0 m.1 f g
  where
    alg : (v p : ℤ) → v ≡ v +ℤ pos 0 *ℤ p
    alg v p = ring (v ▸ p ▸ end) (search quote depth 13) tt
fold_near {P} {B} {C} {e} (pos (suc k)) u v n f g =
    let m = ℕ-near {m = B} {n = C + suc k * (4 * P)} n in around u (N.le_trans (more k) m.1) f g
  where
    more : (k : ℕ) → C + 4 * P ≤ C + suc k * (4 * P)
    more k = omega arith
fold_near {P} {B} {C} {e} (negsuc k) u v n f g =
    let m = ℕ-near {m = B + suc k * (4 * P)} {n = C} (near_as (near_add n (near_refl (pos (suc k * (4 * P))))) refl (alg (pos C) (pos (suc k)) (pos (4 * P))) (zero_more e)) in
    near_sym (around v (N.le_trans (more k) m.0) g f)
  where
    alg : (c s p : ℤ) → c ≡ c +ℤ neg_ℤ s *ℤ p +ℤ s *ℤ p
    alg c s p = ring (c ▸ s ▸ p ▸ end) (search quote depth 13) tt

    zero_more : (e : ℕ) → e + 0 ≤ e
    zero_more e = omega arith

    more : (k : ℕ) → B + 4 * P ≤ B + suc k * (4 * P)
    more k = omega arith
