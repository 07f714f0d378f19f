-- Expressions of a commutative ring and their normal forms, as sums of monomials: two expressions with one normal form have one value in ℤ.
-- Assumes nothing.
use mathlib.Core.Path.{◌≡◌, refl, sym, ◌∙◌, ap, ap₂}
use mathlib.Core.Bool.{Bool, true, false, ◌&&◌}
use Prim.Native.Nat.{ℕ, zero, suc, ◌+◌, compare, Ordering}
use lib.Dec.{T, eqb, compare_is_eq, eqb→eq}
use lib.IntN.{ℤ, pos, negsuc, neg_ℤ, ◌+ℤ◌, ◌*ℤ◌, one, pow, +ℤ_idl, +ℤ_idr, +ℤ_assoc, +ℤ_comm, *ℤ_comm, *ℤ-zero, zero-*ℤ}
use Rattle.algebra.proofs.Tests.{and_split}
use Rattle.algebra.proofs.Integers.{+-inter, add-mul, mul_add, neg_mul_one, mul-one, one-mul, *-inter, pow_add}

-- ---- expressions

infixl 6 ◌⊕◌ ◌⊖◌
infixl 7 ◌⊗◌
infixl 8 ◌↑◌
pub data Expr : Type 0 where
  var : ℕ → Expr
  con : ℤ → Expr
  ◌⊕◌ : Expr → Expr → Expr
  ◌⊗◌ : Expr → Expr → Expr
  neg : Expr → Expr
  ◌↑◌ : Expr → ℕ → Expr

abbrev pub ◌⊖◌ : Expr → Expr → Expr
a ⊖ b = a ⊕ neg b

-- a numeral
abbrev pub # : ℕ → Expr
# n = con (pos n)

pub data Env : Type 0 where
  end : Env
  ◌▸◌ : ℤ → Env → Env

infixr 5 ◌▸◌
abbrev pub head : Env → ℤ
head end = pos zero
head (x ▸ ρ) = x

abbrev pub tail : Env → Env
tail end = end
tail (x ▸ ρ) = ρ

abbrev pub get : ℕ → Env → ℤ
get zero ρ = head ρ
get (suc i) ρ = get i (tail ρ)

abbrev pub ⟦◌⟧ : Expr → Env → ℤ
⟦◌⟧ (var i) ρ = get i ρ
⟦◌⟧ (con c) ρ = c
⟦◌⟧ (a ⊕ b) ρ = ⟦◌⟧ a ρ +ℤ ⟦◌⟧ b ρ
⟦◌⟧ (a ⊗ b) ρ = ⟦◌⟧ a ρ *ℤ ⟦◌⟧ b ρ
⟦◌⟧ (neg a) ρ = neg_ℤ (⟦◌⟧ a ρ)
⟦◌⟧ (a ↑ n) ρ = pow (⟦◌⟧ a ρ) n

-- ---- normal forms: a sum of terms, sorted by their exponents

-- the exponent of each variable, the first first, with no zero at the end
pub data Monomial : Type 0 where
  u : Monomial
  ◌::◌ : ℕ → Monomial → Monomial

infixr 5 ◌::◌
pub data Polynomial : Type 0 where
  o : Polynomial
  term : ℤ → Monomial → Polynomial → Polynomial

abbrev pub ev_m : Monomial → Env → ℤ
ev_m u ρ = pos 1
ev_m (e :: m) ρ = pow (head ρ) e *ℤ ev_m m (tail ρ)

abbrev pub ev_p : Polynomial → Env → ℤ
ev_p o ρ = pos zero
ev_p (term c m p) ρ = c *ℤ ev_m m ρ +ℤ ev_p p ρ

abbrev pub mul_m : Monomial → Monomial → Monomial
mul_m u n = n
mul_m (e :: m) u = e :: m
mul_m (e :: m) (f :: n) = (e + f) :: mul_m m n

abbrev pub or_else : Ordering → Ordering → Ordering
or_else Ordering.lt r = Ordering.lt
or_else Ordering.eq r = r
or_else Ordering.gt r = Ordering.gt

abbrev pub cmp_m : Monomial → Monomial → Ordering
cmp_m u u = Ordering.eq
cmp_m u (f :: n) = Ordering.lt
cmp_m (e :: m) u = Ordering.gt
cmp_m (e :: m) (f :: n) = or_else (compare e f) (cmp_m m n)

-- a term whose coefficient is zero is left out
abbrev pub cons_t : ℤ → Monomial → Polynomial → Polynomial
cons_t (pos zero) m p = p
cons_t (pos (suc n)) m p = term (pos (suc n)) m p
cons_t (negsuc n) m p = term (negsuc n) m p

-- a term and what follows it, with `f` the sum of that and its argument
abbrev pub merge : ℤ → Monomial → Polynomial → (Polynomial → Polynomial) → Polynomial → Polynomial
merge c m p f o = term c m p
merge c m p f (term d n q) = elim (cmp_m m n) [ Ordering.lt ↦ term c m (f (term d n q)) | Ordering.eq ↦ cons_t (c +ℤ d) n (f q) | Ordering.gt ↦ term d n (merge c m p f q) ]

abbrev pub add_p : Polynomial → Polynomial → Polynomial
add_p o q = q
add_p (term c m p) q = merge c m p (add_p p) q

abbrev pub scale : ℤ → Monomial → Polynomial → Polynomial
scale c m o = o
scale c m (term d n p) = term (c *ℤ d) (mul_m m n) (scale c m p)

abbrev pub mul_p : Polynomial → Polynomial → Polynomial
mul_p o q = o
mul_p (term c m p) q = add_p (scale c m q) (mul_p p q)

abbrev pub pow_p : Polynomial → ℕ → Polynomial
pow_p p zero = term (pos 1) u o
pow_p p (suc n) = mul_p p (pow_p p n)

abbrev pub var_m : ℕ → Monomial
var_m zero = 1 :: u
var_m (suc i) = zero :: var_m i

abbrev pub norm : Expr → Polynomial
norm (var i) = term (pos 1) (var_m i) o
norm (con c) = cons_t c u o
norm (a ⊕ b) = add_p (norm a) (norm b)
norm (a ⊗ b) = mul_p (norm a) (norm b)
norm (neg a) = scale (negsuc zero) u (norm a)
norm (a ↑ n) = pow_p (norm a) n

-- ---- the normal form has the expression's value

both : (r s : Ordering) → T (compare_is_eq (or_else r s)) → T (compare_is_eq r) × T (compare_is_eq s)
both Ordering.lt s t = absurd t
both Ordering.eq s t = (tt, t)
both Ordering.gt s t = absurd t

eq_m : (m n : Monomial) → T (compare_is_eq (cmp_m m n)) → m ≡ n
eq_m u u t = refl
eq_m u (f :: n) t = absurd t
eq_m (e :: m) u t = absurd t
eq_m (e :: m) (f :: n) t = let h = both (compare e f) (cmp_m m n) t in ap₂ ◌::◌ (eqb→eq e f h.0) (eq_m m n h.1)

cons_t_is : (c : ℤ) (m : Monomial) (p : Polynomial) (ρ : Env) → ev_p (cons_t c m p) ρ ≡ c *ℤ ev_m m ρ +ℤ ev_p p ρ
cons_t_is (pos zero) m p ρ = sym (ap (λ (x : ℤ). x +ℤ ev_p p ρ) (zero-*ℤ (ev_m m ρ)) ∙ +ℤ_idl (ev_p p ρ))
cons_t_is (pos (suc n)) m p ρ = refl
cons_t_is (negsuc n) m p ρ = refl

-- a term moves past another
past : (a b c : ℤ) → b +ℤ (a +ℤ c) ≡ a +ℤ (b +ℤ c)
past a b c = sym (+ℤ_assoc b a c) ∙ ap (λ (t : ℤ). t +ℤ c) (+ℤ_comm b a) ∙ +ℤ_assoc a b c

merge_is : (c : ℤ) (m : Monomial) (p : Polynomial) (f : Polynomial → Polynomial) (ρ : Env) → ((q : Polynomial) → ev_p (f q) ρ ≡ ev_p p ρ +ℤ ev_p q ρ) → (q : Polynomial)
    → ev_p (merge c m p f q) ρ ≡ c *ℤ ev_m m ρ +ℤ ev_p p ρ +ℤ ev_p q ρ
merge_is c m p f ρ k o = sym (+ℤ_idr (c *ℤ ev_m m ρ +ℤ ev_p p ρ))
merge_is c m p f ρ k (term d n q) = go (cmp_m m n) (eq_m m n) (merge_is c m p f ρ k q)
  where
    C : ℤ
    C = c *ℤ ev_m m ρ

    G : ℤ
    G = d *ℤ ev_m n ρ

    go : (r : Ordering) → (T (compare_is_eq r) → m ≡ n) → ev_p (merge c m p f q) ρ ≡ C +ℤ ev_p p ρ +ℤ ev_p q ρ
        → ev_p (elim r [ Ordering.lt ↦ term c m (f (term d n q)) | Ordering.eq ↦ cons_t (c +ℤ d) n (f q) | Ordering.gt ↦ term d n (merge c m p f q) ]) ρ
        ≡ C +ℤ ev_p p ρ +ℤ (G +ℤ ev_p q ρ)
    go Ordering.lt e h = ap (λ (x : ℤ). C +ℤ x) (k (term d n q)) ∙ sym (+ℤ_assoc C (ev_p p ρ) (G +ℤ ev_p q ρ))
    go Ordering.eq e h =
        cons_t_is (c +ℤ d) n (f q) ρ ∙ ap₂ ◌+ℤ◌ (add-mul c d (ev_m n ρ)) (k q)
        ∙ ap (λ (x : ℤ). c *ℤ x +ℤ G +ℤ (ev_p p ρ +ℤ ev_p q ρ)) (sym (ap (λ (k : Monomial). ev_m k ρ) (e tt))) ∙ +-inter C G (ev_p p ρ) (ev_p q ρ)
    go Ordering.gt e h = ap (λ (x : ℤ). G +ℤ x) h ∙ past (C +ℤ ev_p p ρ) G (ev_p q ρ)

add_p_is : (p q : Polynomial) (ρ : Env) → ev_p (add_p p q) ρ ≡ ev_p p ρ +ℤ ev_p q ρ
add_p_is o q ρ = sym (+ℤ_idl (ev_p q ρ))
add_p_is (term c m p) q ρ = merge_is c m p (add_p p) ρ (λ r. add_p_is p r ρ) q

mul_m_is : (m n : Monomial) (ρ : Env) → ev_m (mul_m m n) ρ ≡ ev_m m ρ *ℤ ev_m n ρ
mul_m_is u n ρ = sym (one-mul (ev_m n ρ))
mul_m_is (e :: m) u ρ = sym (mul-one (ev_m (e :: m) ρ))
mul_m_is (e :: m) (f :: n) ρ =
    ap₂ ◌*ℤ◌ (pow_add (head ρ) e f) (mul_m_is m n (tail ρ)) ∙ *-inter (pow (head ρ) e) (pow (head ρ) f) (ev_m m (tail ρ)) (ev_m n (tail ρ))

scale_is : (c : ℤ) (m : Monomial) (p : Polynomial) (ρ : Env) → ev_p (scale c m p) ρ ≡ c *ℤ ev_m m ρ *ℤ ev_p p ρ
scale_is c m o ρ = sym (*ℤ-zero (c *ℤ ev_m m ρ))
scale_is c m (term d n p) ρ =
    ap₂ ◌+ℤ◌ (ap (λ (x : ℤ). c *ℤ d *ℤ x) (mul_m_is m n ρ) ∙ *-inter c d (ev_m m ρ) (ev_m n ρ)) (scale_is c m p ρ)
    ∙ sym (mul_add (c *ℤ ev_m m ρ) (d *ℤ ev_m n ρ) (ev_p p ρ))

mul_p_is : (p q : Polynomial) (ρ : Env) → ev_p (mul_p p q) ρ ≡ ev_p p ρ *ℤ ev_p q ρ
mul_p_is o q ρ = sym (zero-*ℤ (ev_p q ρ))
mul_p_is (term c m p) q ρ =
    add_p_is (scale c m q) (mul_p p q) ρ ∙ ap₂ ◌+ℤ◌ (scale_is c m q ρ) (mul_p_is p q ρ) ∙ sym (add-mul (c *ℤ ev_m m ρ) (ev_p p ρ) (ev_p q ρ))

pow_p_is : (p : Polynomial) (n : ℕ) (ρ : Env) → ev_p (pow_p p n) ρ ≡ pow (ev_p p ρ) n
unfolding pow one
pow_p_is p zero ρ = refl
pow_p_is p (suc n) ρ = mul_p_is p (pow_p p n) ρ ∙ *ℤ_comm (ev_p p ρ) (ev_p (pow_p p n) ρ) ∙ ap (λ (x : ℤ). x *ℤ ev_p p ρ) (pow_p_is p n ρ)

var_m_is : (i : ℕ) (ρ : Env) → ev_m (var_m i) ρ ≡ get i ρ
unfolding pow one
var_m_is zero ρ = mul-one (pos 1 *ℤ head ρ) ∙ one-mul (head ρ)
var_m_is (suc i) ρ = one-mul (ev_m (var_m i) (tail ρ)) ∙ var_m_is i (tail ρ)

pub norm_is : (e : Expr) (ρ : Env) → ev_p (norm e) ρ ≡ ⟦◌⟧ e ρ
norm_is (var i) ρ = +ℤ_idr (pos 1 *ℤ ev_m (var_m i) ρ) ∙ one-mul (ev_m (var_m i) ρ) ∙ var_m_is i ρ
norm_is (con c) ρ = cons_t_is c u o ρ ∙ +ℤ_idr (c *ℤ pos 1) ∙ mul-one c
norm_is (a ⊕ b) ρ = add_p_is (norm a) (norm b) ρ ∙ ap₂ ◌+ℤ◌ (norm_is a ρ) (norm_is b ρ)
norm_is (a ⊗ b) ρ = mul_p_is (norm a) (norm b) ρ ∙ ap₂ ◌*ℤ◌ (norm_is a ρ) (norm_is b ρ)
norm_is (neg a) ρ = scale_is (negsuc zero) u (norm a) ρ ∙ neg_mul_one (ev_p (norm a) ρ) ∙ ap neg_ℤ (norm_is a ρ)
norm_is (a ↑ n) ρ = pow_p_is (norm a) n ρ ∙ ap (λ (x : ℤ). pow x n) (norm_is a ρ)

-- ---- the solver

-- The normal forms are compared by a test that computes: `refl` between two of them may compare the same calls many times over.
abbrev pub eqℤ : ℤ → ℤ → Bool
eqℤ (pos a) (pos b) = eqb a b
eqℤ (pos a) (negsuc b) = false
eqℤ (negsuc a) (pos b) = false
eqℤ (negsuc a) (negsuc b) = eqb a b

abbrev pub eq_p : Polynomial → Polynomial → Bool
eq_p o o = true
eq_p o (term d n q) = false
eq_p (term c m p) o = false
eq_p (term c m p) (term d n q) = eqℤ c d && (compare_is_eq (cmp_m m n) && eq_p p q)

eqℤ_is : (c d : ℤ) → T (eqℤ c d) → c ≡ d
eqℤ_is (pos a) (pos b) t = ap pos (eqb→eq a b t)
eqℤ_is (pos a) (negsuc b) t = absurd t
eqℤ_is (negsuc a) (pos b) t = absurd t
eqℤ_is (negsuc a) (negsuc b) t = ap negsuc (eqb→eq a b t)

eq_p_is : (p q : Polynomial) → T (eq_p p q) → p ≡ q
eq_p_is o o t = refl
eq_p_is o (term d n q) t = absurd t
eq_p_is (term c m p) o t = absurd t
eq_p_is (term c m p) (term d n q) t =
    let h = and_split (eqℤ c d) (compare_is_eq (cmp_m m n) && eq_p p q) t in
    let k = and_split (compare_is_eq (cmp_m m n)) (eq_p p q) h.1 in
    ap₂ (λ (x : ℤ) (y : Monomial). term x y p) (eqℤ_is c d h.0) (eq_m m n k.0) ∙ ap (term d n) (eq_p_is p q k.1)

pub solve : (a b : Expr) (ρ : Env) → T (eq_p (norm a) (norm b)) → ⟦◌⟧ a ρ ≡ ⟦◌⟧ b ρ
solve a b ρ t = sym (norm_is a ρ) ∙ ap (λ (p : Polynomial). ev_p p ρ) (eq_p_is (norm a) (norm b) t) ∙ norm_is b ρ
