-- Finite numbers of binary64 that are at most a whole number in size, and what the operations make of them. The exact sum, product or quotient
-- has the sum, product or quotient of the bounds, and is then rounded, which does not pass a whole number up to 2^53 (Rounded). Assumes nothing.
use mathlib.Core.Path.{◌≡◌, refl, sym, ap, subst, ◌∙◌}
use Prim.Native.Nat.{ℕ, suc, ◌+◌, ◌-◌, ◌*◌, ◌^◌, ◌≤◌, ◌<◌}
use native.Mathlib.Nat.{le_trans, le_of_eq, add-le-add, add-mul, mul-one, one-mul, mul_comm, mul_assoc, mul_left_comm, mul-le-mul_right, mul-le-mul, mul-pos}
use native.Mathlib.Omega.{arith}
use mathlib.Core.Bool.{Bool, true, false, cond, ◌&&◌, beq}
use lib.Dec.{T, ltb, eqb, leb, leb→le, le→leb, lt→ltb, lit<}
use lib.IntN.{ℤ, pos, negsuc, nat_abs}
use lib.Ieee.{Float, nan, inf, fin, binary64, up, down, unlike, round, neg, add, sub, mul, div, sum, of_int, in_float}
use lib.Ieee.Fits.{down_pos}
use lib.Ieee.Scale.{round_same}
use lib.Ieee.Back.{round_whole}
use Rattle.binary64.specs.Words.{◌⊕◌, ◌⊖◌, ◌⊗◌, ◌⊘◌, whole, zero64}
use Rattle.binary64.specs.Claims.{Finite}
use Rattle.binary64.proofs.Rounded.{Within, round_within}

abbrev AtMost : ℕ → Float → Type 0
AtMost B nan = ⊥
AtMost B (inf s) = ⊥
AtMost B (fin s m e) = m * up e ≤ B * down e

-- a record, so that the numbers can be inferred
pub record Bound (B : ℕ) (x : Float) : Type 0 where
  pub most : AtMost B x

finite_of : (B : ℕ) (x : Float) → AtMost B x → Finite x
finite_of B nan h = h
finite_of B (inf s) h = h
finite_of B (fin s m e) h = tt

pub bound_finite : {B : ℕ} {x : Float} → Bound B x → Finite x
bound_finite {B} {x} b = finite_of B x b.most

-- a number that antt computes
abbrev pub at_most : ℕ → Float → Bool
at_most B nan = false
at_most B (inf s) = false
at_most B (fin s m e) = leb (m * up e) (B * down e)

most_known : (B : ℕ) (x : Float) → T (at_most B x) → AtMost B x
most_known B nan h = h
most_known B (inf s) h = h
most_known B (fin s m e) h = leb→le (m * up e) (B * down e) h

pub known : {B : ℕ} {x : Float} → T (at_most B x) → Bound B x
known {B} {x} h = record { most = most_known B x h }

-- ---- binary64 holds a whole number up to 2 ^ 53 in size
pub size_in_float : (z : ℤ) → nat_abs z ≤ 2 ^ 53 → T (in_float binary64 z)
unfolding in_float
size_in_float (pos n) h = le→leb n (2 ^ 53) h
size_in_float (negsuc n) h = lt→ltb n (2 ^ 53) h

-- ---- what is rounded
most_of : (B : ℕ) (s : Bool) (x : Float) → Within B 1 s x → AtMost B x
most_of B s nan h = h
most_of B s (inf t) h = h
most_of B s (fin t m e) h = le_trans (le_of_eq (sym (mul-one (m * up e)))) h.1

rounded : (B : ℕ) (s : Bool) (num den : ℕ) → 0 < den → B ≤ 2 ^ 53 → num ≤ B * den → AtMost B (round binary64 s num den)
rounded B s num den D k h = most_of B s (round binary64 s num den) (round_within s num den B 1 D (lit< tt) (round_whole binary64 false B k) (le_trans (le_of_eq (mul-one num)) h))

whole_most : (B : ℕ) (z : ℤ) → B ≤ 2 ^ 53 → nat_abs z ≤ B → AtMost B (whole z)
unfolding of_int
whole_most B (pos n) k h = rounded B false n 1 (lit< tt) k (le_trans h (le_of_eq (sym (mul-one B))))
whole_most B (negsuc n) k h = rounded B true (suc n) 1 (lit< tt) k (le_trans h (le_of_eq (sym (mul-one B))))

pub number : (B : ℕ) (z : ℤ) → T (leb B (2 ^ 53)) → nat_abs z ≤ B → Bound B (whole z)
number B z k h = record { most = whole_most B z (leb→le B (2 ^ 53) k) h }

-- ---- the operations
wider : (A B : ℕ) (x : Float) → A ≤ B → AtMost A x → AtMost B x
wider A B nan h a = a
wider A B (inf s) h a = a
wider A B (fin s m e) h a = le_trans a (mul-le-mul_right (down e) h)

pub wide : {A B : ℕ} {x : Float} → T (leb A B) → Bound A x → Bound B x
wide {A} {B} {x} k a = record { most = wider A B x (leb→le A B k) a.most }

neg_most : (A : ℕ) (x : Float) → AtMost A x → AtMost A (neg x)
unfolding neg
neg_most A nan a = a
neg_most A (inf s) a = a
neg_most A (fin s m e) a = a

pub negated : {A : ℕ} {x : Float} → Bound A x → Bound A (neg x)
negated {A} {x} a = record { most = neg_most A x a.most }

either : (B : ℕ) (b : Bool) (x y : Float) → AtMost B x → AtMost B y → AtMost B (cond b x y)
either B true x y h k = h
either B false x y h k = k

spread : (x A de dd : ℕ) → x ≤ A * de → x * dd ≤ A * (de * dd)
spread x A de dd h = le_trans (mul-le-mul_right dd h) (le_of_eq (mul_assoc A de dd))

second_less : (p q c : ℕ) → p + q ≤ c → q - p ≤ c
second_less p q c h = omega arith

first_less : (p q c : ℕ) → p + q ≤ c → p - q ≤ c
first_less p q c h = omega arith

add_most : (A B : ℕ) (x y : Float) → A + B ≤ 2 ^ 53 → AtMost A x → AtMost B y → AtMost (A + B) (x ⊕ y)
unfolding add sum
add_most A B nan y k a b = absurd a
add_most A B (inf s) y k a b = absurd a
add_most A B (fin s m e) nan k a b = absurd b
add_most A B (fin s m e) (inf t) k a b = absurd b
add_most A B (fin s m e) (fin t n d) k a b =
    let p = m * up e * down d in
    let q = n * up d * down e in
    let c = down e * down d in
    let C : 0 < c = mul-pos (down_pos e) (down_pos d) in
    let hp : p ≤ A * c = spread (m * up e) A (down e) (down d) a in
    let hq : q ≤ B * c = le_trans (spread (n * up d) B (down d) (down e) b) (le_of_eq (ap (λ (z : ℕ). B * z) (mul_comm (down d) (down e)))) in
    let hs : p + q ≤ (A + B) * c = le_trans (add-le-add hp hq) (le_of_eq (sym (add-mul A B c))) in
    either (A + B) (beq s t) (round binary64 s (p + q) c) (cond (ltb p q) (round binary64 t (q - p) c) (round binary64 (s && ltb q p) (p - q) c))
    (rounded (A + B) s (p + q) c C k hs)
    (either (A + B) (ltb p q) (round binary64 t (q - p) c) (round binary64 (s && ltb q p) (p - q) c)
    (rounded (A + B) t (q - p) c C k (second_less p q ((A + B) * c) hs))
    (rounded (A + B) (s && ltb q p) (p - q) c C k (first_less p q ((A + B) * c) hs)))

pub added : {A B : ℕ} {x y : Float} → T (leb (A + B) (2 ^ 53)) → Bound A x → Bound B y → Bound (A + B) (x ⊕ y)
added {A} {B} {x} {y} k a b = record { most = add_most A B x y (leb→le (A + B) (2 ^ 53) k) a.most b.most }

pub subtracted : {A B : ℕ} {x y : Float} → T (leb (A + B) (2 ^ 53)) → Bound A x → Bound B y → Bound (A + B) (x ⊖ y)
unfolding sub
subtracted {A} {B} {x} {y} k a b = added k a (negated b)

mul_most : (A B : ℕ) (x y : Float) → A * B ≤ 2 ^ 53 → AtMost A x → AtMost B y → AtMost (A * B) (x ⊗ y)
unfolding mul
mul_most A B nan y k a b = absurd a
mul_most A B (inf s) y k a b = absurd a
mul_most A B (fin s m e) nan k a b = absurd b
mul_most A B (fin s m e) (inf t) k a b = absurd b
mul_most A B (fin s m e) (fin t n d) k a b =
    rounded (A * B) (unlike s t) (m * up e * (n * up d)) (down e * down d) (mul-pos (down_pos e) (down_pos d)) k
    (le_trans (mul-le-mul a b) (le_of_eq (simp (mul_assoc, mul_left_comm))))

pub multiplied : {A B : ℕ} {x y : Float} → T (leb (A * B) (2 ^ 53)) → Bound A x → Bound B y → Bound (A * B) (x ⊗ y)
multiplied {A} {B} {x} {y} k a b = record { most = mul_most A B x y (leb→le (A * B) (2 ^ 53) k) a.most b.most }

-- by a whole number q, here n * 2 ^ j, of A times it
div_most : (A q n j : ℕ) (x : Float) → A ≤ 2 ^ 53 → eqb n 0 ≡ false → 0 < n * 2 ^ j → n * 2 ^ j ≡ q → AtMost (A * q) x → AtMost A (x ⊘ fin false n (pos j))
unfolding div
div_most A q n j nan s z p v a = absurd a
div_most A q n j (inf t) s z p v a = absurd a
div_most A q n j (fin t m e) s z p v a =
    subst (λ (b : Bool). AtMost A (cond b (cond (eqb m 0) nan (inf (unlike t false))) (round binary64 (unlike t false) (m * up e * 1) (n * 2 ^ j * down e)))) (sym z)
    (rounded A (unlike t false) (m * up e * 1) (n * 2 ^ j * down e) (mul-pos p (down_pos e)) s
    (le_trans (le_of_eq (mul-one (m * up e)))
    (le_trans a (le_of_eq (mul_assoc A q (down e) ∙ ap (λ (w : ℕ). A * (w * down e)) (sym v))))))

pub divided : (n j : ℕ) {A : ℕ} {x : Float} → T (leb A (2 ^ 53)) → eqb n 0 ≡ false → 0 < n * 2 ^ j → Bound (A * (n * 2 ^ j)) x → Bound A (x ⊘ fin false n (pos j))
divided n j {A} {x} k z p a = record { most = div_most A (n * 2 ^ j) n j x (leb→le A (2 ^ 53) k) z p refl a.most }

-- ---- a finite number times 0, added to +0, is +0
at_zero : (s : Bool) → round binary64 s 0 1 ≡ fin s 0 (pos 0)
unfolding round
at_zero true = refl
at_zero false = refl

zero_round : (s : Bool) (a d : ℕ) → 0 < d → a ≡ 0 → round binary64 s a d ≡ fin s 0 (pos 0)
zero_round s a d D h = round_same binary64 s a d 0 1 D (lit< tt) (rw h (omega arith)) ∙ at_zero s

zero_plus : (s : Bool) → zero64 ⊕ fin s 0 (pos 0) ≡ zero64
unfolding add
zero_plus true = refl
zero_plus false = refl

nothing : (B : ℕ) (x : Float) → AtMost B x → zero64 ⊕ whole (pos 0) ⊗ x ≡ zero64
unfolding mul of_int
nothing B nan a = absurd a
nothing B (inf s) a = absurd a
nothing B (fin t n d) a =
    ap (λ (z : Float). zero64 ⊕ z) (zero_round (unlike false t) (0 * (n * up d)) (1 * down d) (subst (λ (z : ℕ). 0 < z) (sym (one-mul (down d))) (down_pos d)) (omega arith))
    ∙ zero_plus (unlike false t)

pub zero_product : {B : ℕ} {x : Float} → Bound B x → zero64 ⊕ whole (pos 0) ⊗ x ≡ zero64
zero_product {B} {x} b = nothing B x b.most
