-- The ring solver, for ℤ and for ℕ. `ring (a ▸ b ▸ end) (search quote depth 13) tt` proves an identity in a and b that holds in every
-- commutative ring: the list names the atoms, which may be any terms; `search quote` writes the two sides as expressions; `tt` has the test
-- of their normal forms computed. `ring_n (m ▹ n ▹ end) (search quoteN depth 13) tt` is the same for ℕ. An expression nested deeper wants a
-- larger `depth`, a long one `fits 9000`.
-- Assumes nothing.
use mathlib.Core.Path.{◌≡◌, refl, sym, ◌∙◌, ap, ap₂}
use Prim.Native.Nat.{ℕ, zero, suc, ◌+◌, ◌*◌, ◌^◌}
use lib.Dec.{T, eqb}
use lib.IntN.{ℤ, pos, negsuc, neg_ℤ, ◌+ℤ◌, ◌*ℤ◌, pow, nat_abs}
use Rattle.algebra.proofs.Integers.{pow_pos}
use Rattle.algebra.proofs.Polynomial.{Expr, var, con, ◌⊕◌, ◌⊗◌, neg, ◌↑◌, Env, get, ⟦◌⟧, norm, eq_p, solve}
pub use Rattle.algebra.proofs.Polynomial.{end, ◌▸◌}

-- ---- an expression found from the integer that it stands for: `search quote` finds it

pub record Quoted (ρ : Env) (x : ℤ) : Type 0 where
  pub code : Expr
  pub is : ⟦◌⟧ code ρ ≡ x

-- the i-th variable
pub record Variable (ρ : Env) (x : ℤ) : Type 0 where
  pub index : ℕ
  pub at : get index ρ ≡ x

abbrev pub v_here : {ρ : Env} {x : ℤ} → Variable (x ▸ ρ) x
v_here = record { index = zero; at = refl }

abbrev pub v_there : {ρ : Env} {x y : ℤ} → Variable ρ x → Variable (y ▸ ρ) x
v_there v = record { index = suc v.index; at = v.at }

abbrev pub q_var : {ρ : Env} {x : ℤ} → Variable ρ x → Quoted ρ x
q_var v = record { code = var v.index; is = v.at }

abbrev pub q_pos : {ρ : Env} (n : ℕ) → T (eqb n n) → Quoted ρ (pos n)
q_pos n t = record { code = con (pos n); is = refl }

abbrev pub q_negsuc : {ρ : Env} (n : ℕ) → T (eqb n n) → Quoted ρ (negsuc n)
q_negsuc n t = record { code = con (negsuc n); is = refl }

abbrev pub q_add : {ρ : Env} {x y : ℤ} → Quoted ρ x → Quoted ρ y → Quoted ρ (x +ℤ y)
q_add a b = record { code = a.code ⊕ b.code; is = ap₂ ◌+ℤ◌ a.is b.is }

abbrev pub q_mul : {ρ : Env} {x y : ℤ} → Quoted ρ x → Quoted ρ y → Quoted ρ (x *ℤ y)
q_mul a b = record { code = a.code ⊗ b.code; is = ap₂ ◌*ℤ◌ a.is b.is }

abbrev pub q_neg : {ρ : Env} {x : ℤ} → Quoted ρ x → Quoted ρ (neg_ℤ x)
q_neg a = record { code = neg a.code; is = ap neg_ℤ a.is }

abbrev pub q_pow : {ρ : Env} {x : ℤ} (n : ℕ) → Quoted ρ x → Quoted ρ (pow x n)
q_pow n a = record { code = a.code ↑ n; is = ap (λ (x : ℤ). pow x n) a.is }

-- the same for the native ℕ, through `pos`

pub record QuotedN (ρ : Env) (n : ℕ) : Type 0 where
  pub code : Expr
  pub is : ⟦◌⟧ code ρ ≡ pos n

pub record VariableN (ρ : Env) (n : ℕ) : Type 0 where
  pub index : ℕ
  pub at : get index ρ ≡ pos n

-- the environment of natural numbers
infixr 5 ◌▹◌
abbrev pub ◌▹◌ : ℕ → Env → Env
n ▹ ρ = pos n ▸ ρ

abbrev pub n_here : {ρ : Env} {n : ℕ} → VariableN (pos n ▸ ρ) n
n_here = record { index = zero; at = refl }

abbrev pub n_there : {ρ : Env} {n : ℕ} {y : ℤ} → VariableN ρ n → VariableN (y ▸ ρ) n
n_there v = record { index = suc v.index; at = v.at }

abbrev pub n_var : {ρ : Env} {n : ℕ} → VariableN ρ n → QuotedN ρ n
n_var v = record { code = var v.index; is = v.at }

abbrev pub n_add : {ρ : Env} (m n : ℕ) → QuotedN ρ m → QuotedN ρ n → QuotedN ρ (m + n)
n_add m n a b = record { code = a.code ⊕ b.code; is = ap₂ ◌+ℤ◌ a.is b.is }

abbrev pub n_mul : {ρ : Env} (m n : ℕ) → QuotedN ρ m → QuotedN ρ n → QuotedN ρ (m * n)
n_mul m n a b = record { code = a.code ⊗ b.code; is = ap₂ ◌*ℤ◌ a.is b.is }

abbrev pub n_pow : {ρ : Env} (m n : ℕ) → QuotedN ρ m → QuotedN ρ (m ^ n)
n_pow m n a = record { code = a.code ↑ n; is = ap (λ (x : ℤ). pow x n) a.is ∙ pow_pos m n }

abbrev pub n_lit : {ρ : Env} (n : ℕ) → T (eqb n n) → QuotedN ρ n
n_lit n t = record { code = con (pos n); is = refl }

abbrev pub q_nat : {ρ : Env} (n : ℕ) → QuotedN ρ n → Quoted ρ (pos n)
q_nat n a = record { code = a.code; is = a.is }

-- the two sides of an equation
pub record Sides (ρ : Env) (x y : ℤ) : Type 0 where
  pub left : Quoted ρ x
  pub right : Quoted ρ y

abbrev pub q_sides : {ρ : Env} {x y : ℤ} → Quoted ρ x → Quoted ρ y → Sides ρ x y
q_sides p q = record { left = p; right = q }

pub ruleset quote = (q_sides, q_var, v_here, v_there, q_pos, q_negsuc, q_add, q_mul, q_neg, q_pow, q_nat, n_var, n_here, n_there, n_add, n_mul, n_pow, n_lit, tt)

pub ring : (ρ : Env) {x y : ℤ} (s : Sides ρ x y) → T (eq_p (norm s.left.code) (norm s.right.code)) → x ≡ y
ring ρ s t = sym s.left.is ∙ solve s.left.code s.right.code ρ t ∙ s.right.is

-- ---- identities of ℕ

pub record SidesN (ρ : Env) (x y : ℕ) : Type 0 where
  pub left : QuotedN ρ x
  pub right : QuotedN ρ y

abbrev pub n_sides : {ρ : Env} {x y : ℕ} → QuotedN ρ x → QuotedN ρ y → SidesN ρ x y
n_sides p q = record { left = p; right = q }

pub ruleset quoteN = (n_sides, n_var, n_here, n_there, n_add, n_mul, n_pow, n_lit, tt)

pub ring_n : (ρ : Env) {x y : ℕ} (s : SidesN ρ x y) → T (eq_p (norm s.left.code) (norm s.right.code)) → x ≡ y
ring_n ρ s t = ap nat_abs (sym s.left.is ∙ solve s.left.code s.right.code ρ t ∙ s.right.is)
