-- The laws of ℤ as a commutative ring, beyond those of the library.
-- Assumes nothing.
use mathlib.Core.Path.{◌≡◌, sym, ◌∙◌, ap, ap₂}
use Prim.Native.Nat.{ℕ, zero, suc, ◌+◌, ◌^◌}
use native.Mathlib.Nat.{add-suc, add-zero, pow-zero, pow-suc}
use lib.IntN.{ℤ, pos, negsuc, neg_ℤ, suc_ℤ, pred_ℤ, ◌+ℤ◌, ◌-ℤ◌, ◌*ℤ◌, one, pow, +ℤ_idl, +ℤ_idr, +ℤ_assoc, +ℤ_comm, +ℤ_invr, +ℤ_invl, suc_ℤ-+ℤ, pred_ℤ-+ℤ, *ℤ_comm, *ℤ-one, zero-*ℤ, *ℤ-negsuc, suc_ℤ-*ℤ, pred_ℤ-*ℤ}

-- induction up and down from zero
pub ind : (P : ℤ → Type 0) → P (pos zero) → ((m : ℤ) → P m → P (suc_ℤ m)) → ((m : ℤ) → P m → P (pred_ℤ m)) → (k : ℤ) → P k
ind P z s p (pos zero) = z
ind P z s p (pos (suc n)) = s (pos n) (ind P z s p (pos n))
ind P z s p (negsuc zero) = p (pos zero) z
ind P z s p (negsuc (suc n)) = p (negsuc n) (ind P z s p (negsuc n))

pub +-swap : (a b c : ℤ) → a +ℤ b +ℤ c ≡ a +ℤ c +ℤ b
+-swap a b c = +ℤ_assoc a b c ∙ ap (λ (x : ℤ). a +ℤ x) (+ℤ_comm b c) ∙ sym (+ℤ_assoc a c b)

pub +-inter : (a b c d : ℤ) → (a +ℤ b) +ℤ (c +ℤ d) ≡ (a +ℤ c) +ℤ (b +ℤ d)
+-inter a b c d = sym (+ℤ_assoc (a +ℤ b) c d) ∙ ap (λ (x : ℤ). x +ℤ d) (+-swap a b c) ∙ +ℤ_assoc (a +ℤ c) b d

pub add-mul : (a b c : ℤ) → (a +ℤ b) *ℤ c ≡ a *ℤ c +ℤ b *ℤ c
add-mul a b c = ind (λ (a : ℤ). (a +ℤ b) *ℤ c ≡ a *ℤ c +ℤ b *ℤ c)
    (ap (λ (x : ℤ). x *ℤ c) (+ℤ_idl b) ∙ sym (+ℤ_idl (b *ℤ c)) ∙ ap (λ (x : ℤ). x +ℤ b *ℤ c) (sym (zero-*ℤ c)))
    (λ m h. ap (λ (x : ℤ). x *ℤ c) (suc_ℤ-+ℤ m b) ∙ suc_ℤ-*ℤ (m +ℤ b) c ∙ ap (λ (x : ℤ). x +ℤ c) h
    ∙ +-swap (m *ℤ c) (b *ℤ c) c ∙ ap (λ (x : ℤ). x +ℤ b *ℤ c) (sym (suc_ℤ-*ℤ m c)))
    (λ m h. ap (λ (x : ℤ). x *ℤ c) (pred_ℤ-+ℤ m b) ∙ pred_ℤ-*ℤ (m +ℤ b) c ∙ ap (λ (x : ℤ). x -ℤ c) h
    ∙ +-swap (m *ℤ c) (b *ℤ c) (neg_ℤ c) ∙ ap (λ (x : ℤ). x +ℤ b *ℤ c) (sym (pred_ℤ-*ℤ m c)))
    a

pub mul_add : (a b c : ℤ) → a *ℤ (b +ℤ c) ≡ a *ℤ b +ℤ a *ℤ c
mul_add a b c = *ℤ_comm a (b +ℤ c) ∙ add-mul b c a ∙ ap₂ ◌+ℤ◌ (*ℤ_comm b a) (*ℤ_comm c a)

-- −1 times a number
pub neg_mul_one : (a : ℤ) → negsuc zero *ℤ a ≡ neg_ℤ a
unfolding one
neg_mul_one a = *ℤ_comm (negsuc zero) a ∙ *ℤ-negsuc a zero ∙ ap neg_ℤ (*ℤ-one a)

pub mul-one : (a : ℤ) → a *ℤ pos 1 ≡ a
unfolding one
mul-one a = *ℤ-one a

pub one-mul : (a : ℤ) → pos 1 *ℤ a ≡ a
one-mul a = *ℤ_comm (pos 1) a ∙ mul-one a

-- negation out of a product, by uniqueness of the inverse
pub neg_unique : (a b : ℤ) → a +ℤ b ≡ pos zero → a ≡ neg_ℤ b
neg_unique a b h =
    sym (+ℤ_idr a) ∙ ap (λ (x : ℤ). a +ℤ x) (sym (+ℤ_invr b)) ∙ sym (+ℤ_assoc a b (neg_ℤ b)) ∙ ap (λ (x : ℤ). x -ℤ b) h ∙ +ℤ_idl (neg_ℤ b)

pub neg_mul : (a b : ℤ) → neg_ℤ a *ℤ b ≡ neg_ℤ (a *ℤ b)
neg_mul a b = neg_unique (neg_ℤ a *ℤ b) (a *ℤ b) (sym (add-mul (neg_ℤ a) a b) ∙ ap (λ (x : ℤ). x *ℤ b) (+ℤ_invl a) ∙ zero-*ℤ b)

pub mul_assoc : (a b c : ℤ) → a *ℤ b *ℤ c ≡ a *ℤ (b *ℤ c)
mul_assoc a b c = ind (λ (a : ℤ). a *ℤ b *ℤ c ≡ a *ℤ (b *ℤ c))
    (ap (λ (x : ℤ). x *ℤ c) (zero-*ℤ b) ∙ zero-*ℤ c ∙ sym (zero-*ℤ (b *ℤ c)))
    (λ m h. ap (λ (x : ℤ). x *ℤ c) (suc_ℤ-*ℤ m b) ∙ add-mul (m *ℤ b) b c ∙ ap (λ (x : ℤ). x +ℤ b *ℤ c) h ∙ sym (suc_ℤ-*ℤ m (b *ℤ c)))
    (λ m h. ap (λ (x : ℤ). x *ℤ c) (pred_ℤ-*ℤ m b) ∙ add-mul (m *ℤ b) (neg_ℤ b) c ∙ ap₂ ◌+ℤ◌ h (neg_mul b c) ∙ sym (pred_ℤ-*ℤ m (b *ℤ c)))
    a

pub *-swap : (a b c : ℤ) → a *ℤ b *ℤ c ≡ a *ℤ c *ℤ b
*-swap a b c = mul_assoc a b c ∙ ap (λ (x : ℤ). a *ℤ x) (*ℤ_comm b c) ∙ sym (mul_assoc a c b)

pub *-inter : (a b c d : ℤ) → (a *ℤ b) *ℤ (c *ℤ d) ≡ (a *ℤ c) *ℤ (b *ℤ d)
*-inter a b c d = sym (mul_assoc (a *ℤ b) c d) ∙ ap (λ (x : ℤ). x *ℤ d) (*-swap a b c) ∙ mul_assoc (a *ℤ c) b d

pub pow_add : (x : ℤ) (m n : ℕ) → pow x (m + n) ≡ pow x m *ℤ pow x n
unfolding pow one
pow_add x m zero = ap (pow x) (add-zero m) ∙ sym (mul-one (pow x m))
pow_add x m (suc n) = ap (pow x) (add-suc m n) ∙ ap (λ (y : ℤ). y *ℤ x) (pow_add x m n) ∙ mul_assoc (pow x m) (pow x n) x

pub pow_pos : (D n : ℕ) → pow (pos D) n ≡ pos (D ^ n)
unfolding pow one
pow_pos D zero = ap pos (sym (pow-zero D))
pow_pos D (suc n) = ap (λ (z : ℤ). z *ℤ pos D) (pow_pos D n) ∙ ap pos (sym (pow-suc D n))
