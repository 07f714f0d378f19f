-- The order of ℤ, absolute values, and linear facts of ℤ read as facts of ℕ that `omega` proves: with `let la = atom a in` for each atom,
-- `of_ℕ (search linear) (omega (arith, to_ℕ (search linear) h))` proves an order from the order h.
-- Assumes nothing.
use mathlib.Core.Path.{◌≡◌, refl, sym, ◌∙◌, ap, ap₂, subst}
use Prim.Native.Nat.{ℕ, zero, suc, ◌+◌, ◌*◌, ◌-◌, ◌≤◌}
use native.Mathlib.Nat as N
use native.Mathlib.Omega.{arith}
use lib.Dec.{T, leb, ltb, leb→le, le→leb}
use lib.IntN.{ℤ, pos, negsuc, neg_ℤ, ◌+ℤ◌, ◌-ℤ◌, ◌*ℤ◌, nat_abs, +ℤ_idr}
use lib.Signed.{◌≤ℤ◌, le_z_yes, ≤ℤ_refl}
use Rattle.algebra.proofs.Tests.{cond_case}
use Rattle.algebra.proofs.Ring.{end, ◌▸◌, ring, quote}

-- the library's order, under a name that binds less than a sum
infix 5 ◌≼◌
abbrev pub ◌≼◌ : ℤ → ℤ → Type 0
x ≼ y = x ≤ℤ y

-- ---- x ≤ y says that y is x and a natural number

le_nat : (a b : ℕ) → T (leb a b) → b ≡ a + (b - a)
le_nat a b t = go (leb→le a b t)
  where
    go : a ≤ b → b ≡ a + (b - a)
    go h = omega arith

pub le_dest : {x y : ℤ} → x ≼ y → (k : ℕ) × (y ≡ x +ℤ pos k)
le_dest {x = pos a} {y = pos b} h = (b - a, ap pos (le_nat a b h.le))
le_dest {x = pos a} {y = negsuc b} h = absurd h.le
le_dest {x = negsuc a} {y = pos b} h = (suc a + b, go (pos (suc a)) (pos b))
  where
    go : (s b : ℤ) → b ≡ neg_ℤ s +ℤ (s +ℤ b)
    go s b = ring (s ▸ b ▸ end) (search quote depth 13) tt
le_dest {x = negsuc a} {y = negsuc b} h = (a - b, go (pos (suc a)) (pos (suc b)) (pos (a - b)) (ap pos (nat (leb→le b a h.le))))
  where
    nat : b ≤ a → suc a ≡ suc b + (a - b)
    nat h = omega arith

    alg : (t k : ℤ) → neg_ℤ t ≡ neg_ℤ (t +ℤ k) +ℤ k
    alg t k = ring (t ▸ k ▸ end) (search quote depth 13) tt

    go : (s t k : ℤ) → s ≡ t +ℤ k → neg_ℤ t ≡ neg_ℤ s +ℤ k
    go s t k e = alg t k ∙ ap (λ (z : ℤ). neg_ℤ z +ℤ k) (sym e)

pub le_plus : (x : ℤ) (k : ℕ) → x ≼ x +ℤ pos k
le_plus (pos a) k = le_z_yes (le→leb a (a + k) (N.le-add_right a k))
le_plus (negsuc a) k = cond_case (ltb k (suc a)) (λ (z : ℤ). negsuc a ≼ z)
    (λ t. le_z_yes (le→leb (suc a - suc k) a (less a k))) (λ t. le_z_yes tt)
  where
    less : (a k : ℕ) → suc a - suc k ≤ a
    less a k = omega arith

pub le_intro : (k : ℕ) {x y : ℤ} → y ≡ x +ℤ pos k → x ≼ y
le_intro k {x} {y} e = subst (λ (z : ℤ). x ≼ z) (sym e) (le_plus x k)

-- ---- an integer as a difference of natural numbers: `search linear` finds one for a compound term

pub record Difference (x : ℤ) : Type 0 where
  pub up : ℕ
  pub down : ℕ
  pub is : x ≡ pos up -ℤ pos down

abbrev pub plus : ℤ → ℕ
plus (pos n) = n
plus (negsuc n) = zero

abbrev pub minus : ℤ → ℕ
minus (pos n) = zero
minus (negsuc n) = suc n

pub parts : (x : ℤ) → x ≡ pos (plus x) -ℤ pos (minus x)
parts (pos n) = sym (+ℤ_idr (pos n))
parts (negsuc n) = go (negsuc n)
  where
    go : (z : ℤ) → z ≡ pos zero +ℤ z
    go z = ring (z ▸ end) (search quote depth 13) tt

abbrev pub atom : (x : ℤ) → Difference x
atom x = record { up = plus x; down = minus x; is = parts x }

pub minus_zero : (z : ℤ) → z ≡ z -ℤ pos 0
minus_zero z = ring (z ▸ end) (search quote depth 13) tt

pub neg_as : (z : ℤ) → neg_ℤ z ≡ pos 0 -ℤ z
neg_as z = ring (z ▸ end) (search quote depth 13) tt

abbrev pub l_pos : (n : ℕ) → Difference (pos n)
l_pos n = record { up = n; down = 0; is = minus_zero (pos n) }

abbrev pub l_negsuc : (n : ℕ) → Difference (negsuc n)
l_negsuc n = record { up = 0; down = suc n; is = neg_as (pos (suc n)) }

pub add_is : (a b c d x y : ℤ) → x ≡ a -ℤ b → y ≡ c -ℤ d → x +ℤ y ≡ (a +ℤ c) -ℤ (b +ℤ d)
add_is a b c d x y h k = ap₂ ◌+ℤ◌ h k ∙ alg a b c d
  where
    alg : (a b c d : ℤ) → (a -ℤ b) +ℤ (c -ℤ d) ≡ (a +ℤ c) -ℤ (b +ℤ d)
    alg a b c d = ring (a ▸ b ▸ c ▸ d ▸ end) (search quote depth 13) tt

pub mul_is : (a b c d x y : ℤ) → x ≡ a -ℤ b → y ≡ c -ℤ d → x *ℤ y ≡ (a *ℤ c +ℤ b *ℤ d) -ℤ (a *ℤ d +ℤ b *ℤ c)
mul_is a b c d x y h k = ap₂ ◌*ℤ◌ h k ∙ alg a b c d
  where
    alg : (a b c d : ℤ) → (a -ℤ b) *ℤ (c -ℤ d) ≡ (a *ℤ c +ℤ b *ℤ d) -ℤ (a *ℤ d +ℤ b *ℤ c)
    alg a b c d = ring (a ▸ b ▸ c ▸ d ▸ end) (search quote depth 13) tt

pub neg_is : (a b x : ℤ) → x ≡ a -ℤ b → neg_ℤ x ≡ b -ℤ a
neg_is a b x h = ap neg_ℤ h ∙ alg a b
  where
    alg : (a b : ℤ) → neg_ℤ (a -ℤ b) ≡ b -ℤ a
    alg a b = ring (a ▸ b ▸ end) (search quote depth 13) tt

abbrev pub l_add : {x y : ℤ} → Difference x → Difference y → Difference (x +ℤ y)
l_add {x} {y} p q = record { up = p.up + q.up; down = p.down + q.down; is = add_is (pos p.up) (pos p.down) (pos q.up) (pos q.down) x y p.is q.is }

abbrev pub l_mul : {x y : ℤ} → Difference x → Difference y → Difference (x *ℤ y)
l_mul {x} {y} p q = record { up = p.up * q.up + p.down * q.down; down = p.up * q.down + p.down * q.up; is = mul_is (pos p.up) (pos p.down) (pos q.up) (pos q.down) x y p.is q.is }

abbrev pub l_neg : {x : ℤ} → Difference x → Difference (neg_ℤ x)
l_neg {x} p = record { up = p.down; down = p.up; is = neg_is (pos p.up) (pos p.down) x p.is }

-- the two sides of an order or an equation
pub record Sides (x y : ℤ) : Type 0 where
  pub left : Difference x
  pub right : Difference y

abbrev pub l_sides : {x y : ℤ} → Difference x → Difference y → Sides x y
l_sides p q = record { left = p; right = q }

pub ruleset linear = (l_sides, l_add, l_mul, l_neg, l_pos, l_negsuc)

le_up : (a b c d x y k : ℤ) → x ≡ a -ℤ b → y ≡ c -ℤ d → y ≡ x +ℤ k → c +ℤ b ≡ a +ℤ d +ℤ k
le_up a b c d x y k h h' e = alg₁ b c d ∙ ap (λ (z : ℤ). z +ℤ d +ℤ b) (sym h' ∙ e ∙ ap (λ (z : ℤ). z +ℤ k) h) ∙ alg₂ a b d k
  where
    alg₁ : (b c d : ℤ) → c +ℤ b ≡ (c -ℤ d) +ℤ d +ℤ b
    alg₁ b c d = ring (b ▸ c ▸ d ▸ end) (search quote depth 13) tt

    alg₂ : (a b d k : ℤ) → (a -ℤ b) +ℤ k +ℤ d +ℤ b ≡ a +ℤ d +ℤ k
    alg₂ a b d k = ring (a ▸ b ▸ d ▸ k ▸ end) (search quote depth 13) tt

le_down : (a b c d x y k : ℤ) → x ≡ a -ℤ b → y ≡ c -ℤ d → c +ℤ b ≡ a +ℤ d +ℤ k → y ≡ x +ℤ k
le_down a b c d x y k h h' e = h' ∙ alg₁ b c d ∙ ap (λ (z : ℤ). z -ℤ d -ℤ b) e ∙ alg₂ a b d k ∙ ap (λ (z : ℤ). z +ℤ k) (sym h)
  where
    alg₁ : (b c d : ℤ) → c -ℤ d ≡ (c +ℤ b) -ℤ d -ℤ b
    alg₁ b c d = ring (b ▸ c ▸ d ▸ end) (search quote depth 13) tt

    alg₂ : (a b d k : ℤ) → (a +ℤ d +ℤ k) -ℤ d -ℤ b ≡ (a -ℤ b) +ℤ k
    alg₂ a b d k = ring (a ▸ b ▸ d ▸ k ▸ end) (search quote depth 13) tt

-- a fact of ℤ as a fact of ℕ, and back
pub to_ℕ : {x y : ℤ} (s : Sides x y) → x ≼ y → s.left.up + s.right.down ≤ s.right.up + s.left.down
to_ℕ {x} {y} s h =
    let p = s.left in let q = s.right in let d = le_dest h in
    N.le_intro (p.up + q.down) d.0 (sym (ap nat_abs (le_up (pos p.up) (pos p.down) (pos q.up) (pos q.down) x y (pos d.0) p.is q.is d.1)))

pub of_ℕ : {x y : ℤ} (s : Sides x y) → s.left.up + s.right.down ≤ s.right.up + s.left.down → x ≼ y
of_ℕ {x} {y} s h =
    let p = s.left in let q = s.right in let d = N.le_dest h in
    le_intro d.0 (le_down (pos p.up) (pos p.down) (pos q.up) (pos q.down) x y (pos d.0) p.is q.is (ap pos (sym d.1)))

-- ---- the order's laws

pub ≼_refl : (a : ℤ) → a ≼ a
≼_refl a = ≤ℤ_refl a

pub ≼_trans : {a b c : ℤ} → a ≼ b → b ≼ c → a ≼ c
≼_trans {a} {b} {c} h k = let la = atom a in let lb = atom b in let lc = atom c in of_ℕ (search linear) (omega (arith, to_ℕ (search linear) h, to_ℕ (search linear) k))

pub ≼-antisym : {a b : ℤ} → a ≼ b → b ≼ a → a ≡ b
≼-antisym {a} {b} h k = parts a ∙ ap₂ (λ (m n : ℕ). pos m -ℤ pos n) (go a b (to_ℕ (l_sides (atom a) (atom b)) h) (to_ℕ (l_sides (atom b) (atom a)) k)).0 (go a b (to_ℕ (l_sides (atom a) (atom b)) h) (to_ℕ (l_sides (atom b) (atom a)) k)).1 ∙ sym (parts b)
  where
    go : (a b : ℤ) → plus a + minus b ≤ plus b + minus a → plus b + minus a ≤ plus a + minus b → (plus a ≡ plus b) × (minus a ≡ minus b)
    go (pos a) (pos b) h k = omega arith
    go (pos a) (negsuc b) h k = omega arith
    go (negsuc a) (pos b) h k = omega arith
    go (negsuc a) (negsuc b) h k = omega arith

pub eq_of_ℕ : {x y : ℤ} (s : Sides x y) → s.left.up + s.right.down ≡ s.right.up + s.left.down → x ≡ y
eq_of_ℕ s h = ≼-antisym (of_ℕ s (N.le_of_eq h)) (of_ℕ (l_sides s.right s.left) (N.le_of_eq (sym h)))

pub ≼-add : {a b c d : ℤ} → a ≼ b → c ≼ d → a +ℤ c ≼ b +ℤ d
≼-add {a} {b} {c} {d} h k =
    let la = atom a in let lb = atom b in let lc = atom c in let ld = atom d in
    of_ℕ (search linear) (omega (arith, to_ℕ (search linear) h, to_ℕ (search linear) k))

pub ≼-neg : {a b : ℤ} → a ≼ b → neg_ℤ b ≼ neg_ℤ a
≼-neg {a} {b} h = let la = atom a in let lb = atom b in of_ℕ (search linear) (omega (arith, to_ℕ (search linear) h))

pub pos_le : {m n : ℕ} → m ≤ n → pos m ≼ pos n
pos_le {m} {n} h = le_z_yes (le→leb m n h)

pub le_pos : {m n : ℕ} → pos m ≼ pos n → m ≤ n
le_pos {m} {n} h = leb→le m n h.le

pub nat_of : (x : ℤ) → pos 0 ≼ x → x ≡ pos (nat_abs x)
nat_of (pos n) h = refl
nat_of (negsuc n) h = absurd h.le

pub pos_sub : {a b : ℕ} → b ≤ a → pos (a - b) ≡ pos a -ℤ pos b
pos_sub {a} {b} h = alg (pos (a - b)) (pos b) ∙ ap (λ (n : ℕ). pos n -ℤ pos b) (N.sub-add_cancel h)
  where
    alg : (d b : ℤ) → d ≡ d +ℤ b -ℤ b
    alg d b = ring (d ▸ b ▸ end) (search quote depth 13) tt

-- ---- absolute values

pub abs_le : (x : ℤ) {e : ℕ} → x ≼ pos e → neg_ℤ x ≼ pos e → nat_abs x ≤ e
abs_le (pos n) {e} h k = le_pos h
abs_le (negsuc n) {e} h k = le_pos k

pub le_abs : (x : ℤ) → x ≼ pos (nat_abs x)
le_abs (pos n) = ≼_refl (pos n)
le_abs (negsuc n) = le_z_yes tt

pub neg_le_abs : (x : ℤ) → neg_ℤ x ≼ pos (nat_abs x)
neg_le_abs (pos zero) = le_z_yes tt
neg_le_abs (pos (suc n)) = le_z_yes tt
neg_le_abs (negsuc n) = ≼_refl (pos (suc n))

pub abs_neg : (x : ℤ) → nat_abs (neg_ℤ x) ≡ nat_abs x
abs_neg (pos zero) = refl
abs_neg (pos (suc n)) = refl
abs_neg (negsuc n) = refl

pub abs_mul : (x y : ℤ) → nat_abs (x *ℤ y) ≡ nat_abs x * nat_abs y
abs_mul (pos a) (pos b) = refl
abs_mul (pos a) (negsuc b) = abs_neg (pos (a * suc b))
abs_mul (negsuc a) (pos b) = abs_neg (pos (suc a * b))
abs_mul (negsuc a) (negsuc b) = refl

pub abs_add : (x y : ℤ) → nat_abs (x +ℤ y) ≤ nat_abs x + nat_abs y
abs_add x y =
    let lx = atom x in let ly = atom y in
    let hx = to_ℕ (search linear) (le_abs x) in let hx' = to_ℕ (search linear) (neg_le_abs x) in
    let hy = to_ℕ (search linear) (le_abs y) in let hy' = to_ℕ (search linear) (neg_le_abs y) in
    abs_le (x +ℤ y) (of_ℕ (search linear) (omega arith)) (of_ℕ (search linear) (omega arith))
