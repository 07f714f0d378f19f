-- Angles that agree but for whole turns.
-- Assumes nothing.
use mathlib.Core.Path.{◌≡◌, refl, sym, ◌∙◌, ap}
use Prim.Native.Nat.{ℕ, suc, ◌+◌, ◌*◌, ◌-◌, ◌/◌, ◌%◌, ◌≤◌, ◌<◌}
use native.Mathlib.Nat as N
use native.Mathlib.Omega.{arith}
use lib.IntN.{ℤ, pos, negsuc, neg_ℤ, ◌+ℤ◌, ◌-ℤ◌, ◌*ℤ◌, nat_abs}
use Rattle.algebra.specs.Integers.{remainder}
use Rattle.algebra.specs.Near.{Near}
use Rattle.algebra.proofs.Ring.{end, ◌▸◌, ring, quote}
use Rattle.algebra.proofs.Order.{pos_sub}
use Rattle.algebra.proofs.Near.{near_as, near_wide, near_add, near_scale, near_refl}

-- z / M and P / Q, in turns, are within e / M of each other, but for a whole number of turns
pub record Turns (M Q : ℕ) (z P : ℤ) (e : ℕ) : Type 0 where
  pub turns : ℤ
  pub near : Near (z *ℤ pos Q) (pos M *ℤ P +ℤ turns *ℤ pos (M * Q)) (e * Q)

module _ (M Q : ℕ) where
  pub turns_of : {z P : ℤ} {e : ℕ} → Near (z *ℤ pos Q) (pos M *ℤ P) (e * Q) → Turns M Q z P e
  turns_of {P = P} {e = e} n = record { turns = pos 0; near = near_as n refl (alg (pos M *ℤ P) (pos (M * Q))) (N.le_refl (e * Q)) }
    where
      alg : (p q : ℤ) → p +ℤ pos 0 *ℤ q ≡ p
      alg p q = ring (p ▸ q ▸ end) (search quote depth 13) tt

  pub turns_wide : {z P : ℤ} {e f : ℕ} → e ≤ f → Turns M Q z P e → Turns M Q z P f
  turns_wide h n = record { turns = n.turns; near = near_wide n.near (N.mul-le-mul_right Q h) }

  -- whole turns w more, on either side
  pub turns_left : (w : ℤ) {z z' P : ℤ} {e : ℕ} → z' ≡ z +ℤ w *ℤ pos M → Turns M Q z P e → Turns M Q z' P e
  turns_left w {z} {z'} {P} {e} h n = record {
    turns = n.turns +ℤ w;
    near = near_as (near_add n.near (near_refl (w *ℤ pos (M * Q))))
        (ap (λ (y : ℤ). y *ℤ pos Q) h ∙ left z w (pos M) (pos Q)) (right P n.turns w (pos M) (pos Q)) (zero_more (e * Q));
  }
    where
      left : (z w m q : ℤ) → (z +ℤ w *ℤ m) *ℤ q ≡ z *ℤ q +ℤ w *ℤ (m *ℤ q)
      left z w m q = ring (z ▸ w ▸ m ▸ q ▸ end) (search quote depth 13) tt

      right : (p t w m q : ℤ) → m *ℤ p +ℤ (t +ℤ w) *ℤ (m *ℤ q) ≡ m *ℤ p +ℤ t *ℤ (m *ℤ q) +ℤ w *ℤ (m *ℤ q)
      right p t w m q = ring (p ▸ t ▸ w ▸ m ▸ q ▸ end) (search quote depth 13) tt

      zero_more : (a : ℕ) → a + 0 ≤ a
      zero_more a = omega arith

  pub turns_right : (w : ℤ) {z P P' : ℤ} {e : ℕ} → P ≡ P' +ℤ w *ℤ pos Q → Turns M Q z P e → Turns M Q z P' e
  turns_right w {z} {P} {P'} {e} h n = record {
    turns = n.turns +ℤ w;
    near = near_as n.near refl (alg P' n.turns w (pos M) (pos Q) ∙ ap (λ (y : ℤ). pos M *ℤ y +ℤ n.turns *ℤ pos (M * Q)) (sym h)) (N.le_refl (e * Q));
  }
    where
      alg : (p t w m q : ℤ) → m *ℤ p +ℤ (t +ℤ w) *ℤ (m *ℤ q) ≡ m *ℤ (p +ℤ w *ℤ q) +ℤ t *ℤ (m *ℤ q)
      alg p t w m q = ring (p ▸ t ▸ w ▸ m ▸ q ▸ end) (search quote depth 13) tt

  pub turns_add : {z z' P P' : ℤ} {e f : ℕ} → Turns M Q z P e → Turns M Q z' P' f → Turns M Q (z +ℤ z') (P +ℤ P') (e + f)
  turns_add {z} {z'} {P} {P'} {e} {f} n k = record {
    turns = n.turns +ℤ k.turns;
    near = near_as (near_add n.near k.near) (left z z' (pos Q)) (right P P' n.turns k.turns (pos M) (pos (M * Q))) (N.le_of_eq (sym (N.add-mul e f Q)));
  }
    where
      left : (a b q : ℤ) → (a +ℤ b) *ℤ q ≡ a *ℤ q +ℤ b *ℤ q
      left a b q = ring (a ▸ b ▸ q ▸ end) (search quote depth 13) tt

      right : (a b s t m q : ℤ) → m *ℤ (a +ℤ b) +ℤ (s +ℤ t) *ℤ q ≡ m *ℤ a +ℤ s *ℤ q +ℤ (m *ℤ b +ℤ t *ℤ q)
      right a b s t m q = ring (a ▸ b ▸ s ▸ t ▸ m ▸ q ▸ end) (search quote depth 13) tt

  pub turns_scale : (k : ℤ) {z P : ℤ} {e : ℕ} → Turns M Q z P e → Turns M Q (k *ℤ z) (k *ℤ P) (nat_abs k * e)
  turns_scale k {z} {P} {e} n = record {
    turns = k *ℤ n.turns;
    near = near_as (near_scale k n.near) (left k z (pos Q)) (right k P n.turns (pos M) (pos (M * Q))) (N.le_of_eq (sym (N.mul_assoc (nat_abs k) e Q)));
  }
    where
      left : (k z q : ℤ) → k *ℤ z *ℤ q ≡ k *ℤ (z *ℤ q)
      left k z q = ring (k ▸ z ▸ q ▸ end) (search quote depth 13) tt

      right : (k p t m q : ℤ) → m *ℤ (k *ℤ p) +ℤ k *ℤ t *ℤ q ≡ k *ℤ (m *ℤ p +ℤ t *ℤ q)
      right k p t m q = ring (k ▸ p ▸ t ▸ m ▸ q ▸ end) (search quote depth 13) tt

-- ---- whole turns removed

-- of a natural number
pub mod_is : (a M : ℕ) → pos (a % M) ≡ pos a +ℤ neg_ℤ (pos (a / M)) *ℤ pos M
mod_is a M = alg (pos (a % M)) (pos (a / M)) (pos M) ∙ ap (λ (n : ℕ). pos n +ℤ neg_ℤ (pos (a / M)) *ℤ pos M) (N.div-add-mod' a M)
  where
    alg : (r q m : ℤ) → r ≡ q *ℤ m +ℤ r +ℤ neg_ℤ q *ℤ m
    alg r q m = ring (r ▸ q ▸ m ▸ end) (search quote depth 13) tt

-- of an integer: the least remainder that is not negative is below q, and the integer but for multiples of q
pub remainder_less : (z : ℤ) (q : ℕ) → 0 < q → remainder z q < q
remainder_less (pos a) q h = N.mod-lt a h
remainder_less (negsuc a) q h = omega arith

abbrev pub quotient : ℤ → ℕ → ℤ
quotient (pos a) q = pos (a / q)
quotient (negsuc a) q = negsuc (a / q)

pub remainder_is : (z : ℤ) (q : ℕ) → 0 < q → z ≡ pos (remainder z q) +ℤ quotient z q *ℤ pos q
remainder_is (pos a) q h = ap pos (sym (N.div-add-mod' a q) ∙ N.add_comm (a / q * q) (a % q))
remainder_is (negsuc a) q h =
    ap (λ (n : ℕ). neg_ℤ (pos n)) first ∙ alg (pos (a / q)) (pos q) (pos (a % q))
    ∙ ap (λ (z : ℤ). z +ℤ neg_ℤ (pos 1 +ℤ pos (a / q)) *ℤ pos q) (sym less)
    ∙ ap (λ (n : ℕ). pos (q - 1 - a % q) +ℤ neg_ℤ (pos n) *ℤ pos q) (one_more (a / q))
  where
    alg : (d q r : ℤ) → neg_ℤ (pos 1 +ℤ (d *ℤ q +ℤ r)) ≡ (q -ℤ pos 1 -ℤ r) +ℤ neg_ℤ (pos 1 +ℤ d) *ℤ q
    alg d q r = ring (d ▸ q ▸ r ▸ end) (search quote depth 13) tt

    first : suc a ≡ 1 + (a / q * q + a % q)
    first = omega (arith, N.div-add-mod' a q)

    one_more : (n : ℕ) → 1 + n ≡ suc n
    one_more n = omega arith

    less : pos (q - 1 - a % q) ≡ pos q -ℤ pos 1 -ℤ pos (a % q)
    less = pos_sub (below (N.mod-lt a h)) ∙ ap (λ (z : ℤ). z -ℤ pos (a % q)) (pos_sub h)
      where
        below : a % q < q → a % q ≤ q - 1
        below k = omega arith

-- whole turns removed, of both
pub turns_removed : {M Q b e : ℕ} {P : ℤ} → 0 < Q → Turns M Q (pos b) P e → Turns M Q (pos (b % M)) (pos (remainder P Q)) e
turns_removed {M} {Q} {b} {e} {P} h n =
    turns_right M Q (quotient P Q) {z = pos (b % M)} {P = P} {P' = pos (remainder P Q)} (remainder_is P Q h)
    (turns_left M Q (neg_ℤ (pos (b / M))) {z = pos b} {z' = pos (b % M)} {P = P} (mod_is b M) n)
