-- The calculus of distances: `Near x y e` says |x − y| ≤ e, of integers. A bound of fractions is one of these over a common denominator.
-- Assumes nothing.
use mathlib.Core.Path.{◌≡◌, refl, sym, ◌∙◌, ap, ap₂}
use Prim.Native.Nat.{ℕ, zero, suc, ◌+◌, ◌*◌, ◌≤◌, ◌<◌}
use native.Mathlib.Nat as N
use native.Mathlib.Nat.{le_trans, le_of_eq, add-le-add, mul-le-mul, lt_of_le_of_lt, lt_of_mul-lt-mul_left}
use native.Mathlib.Omega.{arith}
use lib.IntN.{ℤ, pos, neg_ℤ, ◌+ℤ◌, ◌-ℤ◌, ◌*ℤ◌, nat_abs}
use Rattle.algebra.specs.Integers.{sumℤ, sumℕ, dist}
use Rattle.algebra.specs.Near.{Near}
use Rattle.algebra.proofs.Ring.{end, ◌▸◌, ring, quote}
use Rattle.algebra.proofs.Order.{◌≼◌, atom, linear, to_ℕ, of_ℕ, neg_as, le_abs, neg_le_abs, abs_le, abs_add, abs_mul, abs_neg, pos_le, le_pos}

-- ---- from bounds, and to bounds

pub near : (x y : ℤ) {e : ℕ} → nat_abs (x -ℤ y) ≤ e → Near x y e
near x y h = record { by = h }

-- as two bounds, each from one side
pub near_of : {x y : ℤ} {e : ℕ} → x ≼ y +ℤ pos e → y ≼ x +ℤ pos e → Near x y e
near_of {x} {y} {e} h k =
    let lx = atom x in let ly = atom y in
    let h' = to_ℕ (search linear) h in let k' = to_ℕ (search linear) k in
    near x y (abs_le (x -ℤ y) (of_ℕ (search linear) (omega arith)) (of_ℕ (search linear) (omega arith)))

pub near_up : {x y : ℤ} {e : ℕ} → Near x y e → x ≼ y +ℤ pos e
near_up {x} {y} {e} n =
    let lx = atom x in let ly = atom y in
    let k = to_ℕ (search linear) (le_abs (x -ℤ y)) in
    of_ℕ (search linear) (omega (arith, n.by))

pub near_down : {x y : ℤ} {e : ℕ} → Near x y e → y ≼ x +ℤ pos e
near_down {x} {y} {e} n =
    let lx = atom x in let ly = atom y in
    let k = to_ℕ (search linear) (neg_le_abs (x -ℤ y)) in
    of_ℕ (search linear) (omega (arith, n.by))

-- between two natural numbers
pub near_ℕ : {m n e : ℕ} → m ≤ n + e → n ≤ m + e → Near (pos m) (pos n) e
near_ℕ h k = near_of (pos_le h) (pos_le k)

pub ℕ-near : {m n e : ℕ} → Near (pos m) (pos n) e → (m ≤ n + e) × (n ≤ m + e)
ℕ-near n = (le_pos (near_up n), le_pos (near_down n))

-- two natural numbers are as near as their distance
pub near_dist : (a b : ℕ) → Near (pos a) (pos b) (dist a b)
near_dist a b = near_ℕ (omega arith) (omega arith)

-- ---- sums, products and multiples

-- the same fact, of other forms of its numbers and a wider error
pub near_as : {x y x' y' : ℤ} {e e' : ℕ} → Near x y e → x' ≡ x → y' ≡ y → e ≤ e' → Near x' y' e'
near_as {x} {y} {x'} {y'} n p q h = near x' y' (le_trans (le_of_eq (ap₂ (λ (a b : ℤ). nat_abs (a -ℤ b)) p q)) (le_trans n.by h))

pub near_wide : {x y : ℤ} {e e' : ℕ} → Near x y e → e ≤ e' → Near x y e'
near_wide n h = near_as n refl refl h

pub near_refl : (x : ℤ) → Near x x 0
near_refl x = near x x (le_of_eq (ap nat_abs (alg x)))
  where
    alg : (x : ℤ) → x -ℤ x ≡ pos 0
    alg x = ring (x ▸ end) (search quote depth 13) tt

pub near_sym : {x y : ℤ} {e : ℕ} → Near x y e → Near y x e
near_sym {x} {y} n = near y x (le_trans (le_of_eq (ap nat_abs (alg x y) ∙ abs_neg (x -ℤ y))) n.by)
  where
    alg : (x y : ℤ) → y -ℤ x ≡ neg_ℤ (x -ℤ y)
    alg x y = ring (x ▸ y ▸ end) (search quote depth 13) tt

-- the absolute value of a sum that is given in another form
pub abs_sum : {x : ℤ} (y z : ℤ) {a b : ℕ} → x ≡ y +ℤ z → nat_abs y ≤ a → nat_abs z ≤ b → nat_abs x ≤ a + b
abs_sum y z p h k = le_trans (le_of_eq (ap nat_abs p)) (le_trans (abs_add y z) (add-le-add h k))

-- and of a product
pub abs_prod : (y z : ℤ) {a b : ℕ} → nat_abs y ≤ a → nat_abs z ≤ b → nat_abs (y *ℤ z) ≤ a * b
abs_prod y z h k = le_trans (le_of_eq (abs_mul y z)) (mul-le-mul h k)

pub near_trans : {x y z : ℤ} {e f : ℕ} → Near x y e → Near y z f → Near x z (e + f)
near_trans {x} {y} {z} n m = near x z (abs_sum (x -ℤ y) (y -ℤ z) (alg x y z) n.by m.by)
  where
    alg : (x y z : ℤ) → x -ℤ z ≡ (x -ℤ y) +ℤ (y -ℤ z)
    alg x y z = ring (x ▸ y ▸ z ▸ end) (search quote depth 13) tt

pub near_add : {x y x' y' : ℤ} {e f : ℕ} → Near x y e → Near x' y' f → Near (x +ℤ x') (y +ℤ y') (e + f)
near_add {x} {y} {x'} {y'} n m = near (x +ℤ x') (y +ℤ y') (abs_sum (x -ℤ y) (x' -ℤ y') (alg x y x' y') n.by m.by)
  where
    alg : (x y z w : ℤ) → (x +ℤ z) -ℤ (y +ℤ w) ≡ (x -ℤ y) +ℤ (z -ℤ w)
    alg x y z w = ring (x ▸ y ▸ z ▸ w ▸ end) (search quote depth 13) tt

-- taken from one number
pub near_from : (c : ℤ) {x y : ℤ} {e : ℕ} → Near x y e → Near (c -ℤ x) (c -ℤ y) e
near_from c {x} {y} n = near (c -ℤ x) (c -ℤ y) (le_trans (le_of_eq (ap nat_abs (alg c x y))) (near_sym n).by)
  where
    alg : (c x y : ℤ) → (c -ℤ x) -ℤ (c -ℤ y) ≡ y -ℤ x
    alg c x y = ring (c ▸ x ▸ y ▸ end) (search quote depth 13) tt

pub near_neg : {x y : ℤ} {e : ℕ} → Near x y e → Near (neg_ℤ x) (neg_ℤ y) e
near_neg {x} {y} {e} n = near_as (near_from (pos 0) n) (neg_as x) (neg_as y) (N.le_refl e)

pub near_sub : {x y x' y' : ℤ} {e f : ℕ} → Near x y e → Near x' y' f → Near (x -ℤ x') (y -ℤ y') (e + f)
near_sub n m = near_add n (near_neg m)

-- by a constant
pub near_scale : (k : ℤ) {x y : ℤ} {e : ℕ} → Near x y e → Near (k *ℤ x) (k *ℤ y) (nat_abs k * e)
near_scale k {x} {y} n = near (k *ℤ x) (k *ℤ y) (le_trans (le_of_eq (ap nat_abs (alg k x y))) (abs_prod k (x -ℤ y) (N.le_refl (nat_abs k)) n.by))
  where
    alg : (k x y : ℤ) → k *ℤ x -ℤ k *ℤ y ≡ k *ℤ (x -ℤ y)
    alg k x y = ring (k ▸ x ▸ y ▸ end) (search quote depth 13) tt

-- a common factor goes out, and what is left of the error below one more is lost with it
pub near_unscale : (k : ℕ) {x y : ℤ} {e r : ℕ} → Near (pos k *ℤ x) (pos k *ℤ y) (k * e + r) → r < k → Near x y e
near_unscale k {x} {y} {e} {r} n h = near x y (below (lt_of_mul-lt-mul_left k (lt_of_le_of_lt big small)))
  where
    alg : (k x y : ℤ) → k *ℤ (x -ℤ y) ≡ k *ℤ x -ℤ k *ℤ y
    alg k x y = ring (k ▸ x ▸ y ▸ end) (search quote depth 13) tt

    big : k * nat_abs (x -ℤ y) ≤ k * e + r
    big = le_trans (le_of_eq (sym (abs_mul (pos k) (x -ℤ y)) ∙ ap nat_abs (alg (pos k) x y))) n.by

    small : k * e + r < k * suc e
    small = omega arith

    below : nat_abs (x -ℤ y) < suc e → nat_abs (x -ℤ y) ≤ e
    below h = omega arith

-- two whole numbers near one fraction, z over D, are near one another
pub near_one_fraction : {x y z : ℤ} {D : ℕ} (a b : ℕ) → 0 < D → Near (x *ℤ pos D) z (a * D) → Near (y *ℤ pos D) z (b * D) → Near x y (a + b)
near_one_fraction {x} {y} {z} {D} a b h n m = near_unscale D (near_as (near_trans n (near_sym m)) (alg x (pos D)) (alg y (pos D)) (error a b D)) h
  where
    alg : (x d : ℤ) → d *ℤ x ≡ x *ℤ d
    alg x d = ring (x ▸ d ▸ end) (search quote depth 13) tt

    error : (a b d : ℕ) → a * d + b * d ≤ d * (a + b) + 0
    error a b d = omega arith

-- no number is near two that are far apart
pub near_two_apart : {x y z : ℤ} {a b : ℕ} → Near x y a → Near x z b → a + b < nat_abs (y -ℤ z) → ⊥
near_two_apart n m h = N.lt_irrefl _ (N.lt_of_lt_of_le h (near_trans (near_sym n) m).by)

-- two bounded numbers multiplied
pub near_mul : (B C : ℕ) {x y x' y' : ℤ} {e f : ℕ} → nat_abs y' ≤ B → nat_abs x ≤ C → Near x y e → Near x' y' f → Near (x *ℤ x') (y *ℤ y') (e * B + C * f)
near_mul B C {x} {y} {x'} {y'} b c n m =
    near (x *ℤ x') (y *ℤ y') (abs_sum ((x -ℤ y) *ℤ y') (x *ℤ (x' -ℤ y')) (alg x y x' y') (abs_prod (x -ℤ y) y' n.by b) (abs_prod x (x' -ℤ y') c m.by))
  where
    alg : (x y z w : ℤ) → x *ℤ z -ℤ y *ℤ w ≡ (x -ℤ y) *ℤ w +ℤ x *ℤ (z -ℤ w)
    alg x y z w = ring (x ▸ y ▸ z ▸ w ▸ end) (search quote depth 13) tt

-- ---- a sum with weights

pub near_sum : (n : ℕ) (c x y : ℕ → ℤ) (w e : ℕ → ℕ) → ((i : ℕ) → nat_abs (c i) ≤ w i) → ((i : ℕ) → i < n → Near (x i) (y i) (e i))
    → Near (sumℤ n (λ i. c i *ℤ x i)) (sumℤ n (λ i. c i *ℤ y i)) (sumℕ n (λ i. w i * e i))
near_sum zero c x y w e b h = near_refl (pos 0)
near_sum (suc n) c x y w e b h =
    near_add (near_sum n c x y w e b (λ i l. h i (N.le_step l))) (near_wide (near_scale (c n) (h n (N.lt-suc_self n))) (N.mul-le-mul_right (e n) (b n)))
