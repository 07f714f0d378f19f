-- The remainder of two numbers in whole units of 2^-1074: what the bits of a number say of its units, what the product by a power of two gives back,
-- and that the remainder of the units is the remainder of the numbers. Assumes nothing.
use mathlib.Core.Path.{◌≡◌, refl, sym, ap, subst, ◌∙◌}
use Prim.Native.Nat.{ℕ, suc, ◌+◌, ◌-◌, ◌*◌, ◌/◌, ◌%◌, ◌^◌, ◌≤◌, ◌<◌}
use mathlib.Core.Logic.{inl, inr}
use native.Mathlib.Nat.{eq-zero-or-pos, zero-mul, le_trans, le_of_eq, lt_of_lt_of_le, mul_comm, mul_assoc, mul_left_comm, mul_right_comm, mul-one, mul-le-mul}
use native.Mathlib.Nat.{mul-lt-mul_of_pos_right, mul-pos, add-mul, div-add-mod', mul-add-mod_self_right, mod-eq_of_lt, mod-eq-sub-mod, mod-lt, add-mod, pow-succ'}
use native.Mathlib.Omega.{arith}
use mathlib.Core.Bool.{Bool, true, false, not, cond, ◌&&◌, ◌||◌, beq, true≢false}
use borrow.Author.Tests.{ne_eqb, eq-eqb, eqb-true, eqb-false, lt-leb}
use lib.Dec.{T, eqb, leb, lit<}
use lib.IntN.{pos}
use lib.Pow.{pow-add, pow_pos, pow_mono}
use lib.Ieee.{Float, nan, inf, fin, binary64, up, down, odd, unlike, round, neg, mul, rem, eq, of_int, of_bits, of_fields, to_bits, fits, is_nan}
use lib.Ieee.Fits.{up_pos, down_pos}
use lib.Ieee.Bits.{of_bits-to_bits}
use lib.Ieee.Exact.{HasValue, odd_sign, round_exact}
use lib.Ieee.Positive.{first_pos}
use lib.Ieee.Scale.{round_same}
use lib.Ieee.Back.{round_whole}
use Rattle.std.specs.Float.{float_is_finite}
use Rattle.binary64.specs.Words.{zero64}

-- ---- the units that the bits say
pub number : (x : Float) → float_is_finite x ≡ true → T (not (is_nan x))
unfolding float_is_finite is_nan
number nan h = true≢false (sym h)
number (inf s) h = tt
number (fin s m e) h = tt

no_number : (s b : Bool) → float_is_finite (cond b (inf s) nan) ≡ true → ⊥
unfolding float_is_finite
no_number s true h = true≢false (sym h)
no_number s false h = true≢false (sym h)

low_field : (s : Bool) (t : ℕ) → HasValue (of_fields binary64 s 0 t) s (t * 1) (2 ^ 1074)
unfolding of_fields
low_field s t = odd_sign 53 s t 0 1074

high_field : (s : Bool) (j t : ℕ) → j < 2047 → float_is_finite (of_fields binary64 s (suc j) t) ≡ true
    → HasValue (of_fields binary64 s (suc j) t) s ((2 ^ 52 + t) * 2 ^ j) (2 ^ 1074) × (j ≤ 2045)
unfolding of_fields
high_field s j t small = go (eqb (suc j) 2047) refl
  where
    go : (b : Bool) → eqb (suc j) 2047 ≡ b → float_is_finite (cond b (cond (eqb t 0) (inf s) nan) (odd 53 s (2 ^ 52 + t) j 1074)) ≡ true
        → HasValue (cond b (cond (eqb t 0) (inf s) nan) (odd 53 s (2 ^ 52 + t) j 1074)) s ((2 ^ 52 + t) * 2 ^ j) (2 ^ 1074) × (j ≤ 2045)
    go true e h = absurd (no_number s (eqb t 0) h)
    go false e h = (odd_sign 53 s (2 ^ 52 + t) j 1074, omega (arith, eqb-false (suc j) 2047 e))

-- the sign, the exponent and the digits below the leading one
abbrev sign : ℕ → Bool
sign b = leb (2 ^ 63) b

abbrev exponent : ℕ → ℕ
exponent b = b / 2 ^ 52 % 2 ^ 11

abbrev low : ℕ → ℕ
low b = b % 2 ^ 52

abbrev Low : (x : Float) (b : ℕ) → Type 0
Low x b = HasValue x (sign b) (low b * 1) (2 ^ 1074)

abbrev High : (x : Float) (b : ℕ) → Type 0
High x b = HasValue x (sign b) ((2 ^ 52 + low b) * 2 ^ (exponent b - 1)) (2 ^ 1074) × (exponent b - 1 ≤ 2045)

low_bits : (b : ℕ) → exponent b ≡ 0 → Low (of_bits binary64 b) b
unfolding of_bits
low_bits b h =
    let z : b % 2 ^ 63 / 2 ^ 52 ≡ 0 = omega arith in
    subst (λ (x : ℕ). Low (of_fields binary64 (sign b) x (low b)) b) (sym z) (low_field (sign b) (low b))

high_bits : (b : ℕ) → 0 < exponent b → float_is_finite (of_bits binary64 b) ≡ true → High (of_bits binary64 b) b
unfolding of_bits
high_bits b h =
    let z : b % 2 ^ 63 / 2 ^ 52 ≡ suc (exponent b - 1) = omega arith in
    subst (λ (x : ℕ). float_is_finite (of_fields binary64 (sign b) x (low b)) ≡ true → High (of_fields binary64 (sign b) x (low b)) b) (sym z)
    (high_field (sign b) (exponent b - 1) (low b) (omega arith))

pub low_units : (x : Float) → fits binary64 x ≡ true → exponent (to_bits binary64 x) ≡ 0 → Low x (to_bits binary64 x)
low_units x w h = let b = to_bits binary64 x in subst (λ (y : Float). Low y b) (of_bits-to_bits binary64 x (subst T (sym w) tt)) (low_bits b h)

pub high_units : (x : Float) → fits binary64 x ≡ true → float_is_finite x ≡ true → 0 < exponent (to_bits binary64 x) → High x (to_bits binary64 x)
high_units x w f h =
    let b = to_bits binary64 x in
    subst (λ (y : Float). float_is_finite y ≡ true → High y b) (of_bits-to_bits binary64 x (subst T (sym w) tt)) (high_bits b h) f

-- ---- a number of so many units
turned : (x : Float) (s : Bool) (a c : ℕ) → HasValue x s a c → HasValue (neg x) (not s) a c
unfolding neg
turned nan s a c h = h
turned (inf t) s a c h = h
turned (fin t m e) s a c h = (ap not h.0, h.1)

product : (x y : Float) (s t : Bool) (a c b d : ℕ) → 0 < c → 0 < d → HasValue x s a c → HasValue y t b d → mul binary64 x y ≡ round binary64 (unlike s t) (a * b) (c * d)
unfolding mul
product nan y s t a c b d C D h k = absurd h
product (inf u) y s t a c b d C D h k = absurd h
product (fin u m e) nan s t a c b d C D h k = absurd k
product (fin u m e) (inf v) s t a c b d C D h k = absurd k
product (fin u m e) (fin v n g) s t a c b d C D h k =
    ap (λ (z : Bool). round binary64 (unlike z v) (m * up e * (n * up g)) (down e * down g)) h.0
    ∙ ap (λ (z : Bool). round binary64 (unlike s z) (m * up e * (n * up g)) (down e * down g)) k.0
    ∙ round_same binary64 (unlike s t) (m * up e * (n * up g)) (down e * down g) (a * b) (c * d) (mul-pos (down_pos e) (down_pos g)) (mul-pos C D)
    (four (m * up e) (n * up g) c d ∙ ap (λ (z : ℕ). z * (n * up g * d)) h.1 ∙ ap (λ (z : ℕ). a * down e * z) k.1 ∙ four a (down e) b (down g))
  where
    four : (x y c d : ℕ) → x * y * (c * d) ≡ x * c * (y * d)
    four x y c d = simp (mul_assoc, mul_left_comm)

-- 2^52 times 2^k units
pub scale_plus : (k : ℕ) → k ≤ 2045 → HasValue (of_bits binary64 ((k + 1) * 2 ^ 52)) false (2 ^ 52 * 2 ^ k) (2 ^ 1074)
unfolding of_bits of_fields
scale_plus k h =
    let b = (k + 1) * 2 ^ 52 in
    let s : leb (2 ^ 63) b ≡ false = lt-leb (2 ^ 63) b (omega arith) in
    let x : b % 2 ^ 63 / 2 ^ 52 ≡ suc k = omega arith in
    let t : b % 2 ^ 52 ≡ 0 = omega arith in
    rw (s, x, t, ne_eqb (suc k) 2047 (omega arith)) (odd_sign 53 false (2 ^ 52) k 1074)

pub scale_minus : (k : ℕ) → k ≤ 2045 → HasValue (neg (of_bits binary64 ((k + 1) * 2 ^ 52))) true (2 ^ 52 * 2 ^ k) (2 ^ 1074)
scale_minus k h = turned (of_bits binary64 ((k + 1) * 2 ^ 52)) false (2 ^ 52 * 2 ^ k) (2 ^ 1074) (scale_plus k h)

-- 2^-52
epsilon : HasValue (of_bits binary64 0x3cb0000000000000) false 1 (2 ^ 52)
unfolding of_bits
epsilon = (refl, refl)

-- d of it
abbrev fraction : ℕ → Float
fraction d = mul binary64 (of_int binary64 (pos d)) (of_bits binary64 0x3cb0000000000000)

fraction_value : (d : ℕ) → d < 2 ^ 53 → HasValue (fraction d) false d (2 ^ 52)
unfolding of_int
fraction_value d h =
    subst (λ (x : Float). HasValue x false d (2 ^ 52))
    (sym
    (product (round binary64 false d 1) (of_bits binary64 0x3cb0000000000000) false false d 1 1 (2 ^ 52) (lit< tt) (lit< tt) (round_whole binary64 false d (omega arith)) epsilon
    ∙ ap (λ (x : ℕ). round binary64 false x (2 ^ 52)) (mul-one d)))
    (round_exact binary64 false d (2 ^ 52) d 1022 (lit< tt) h (omega arith) (omega arith))

pub scaled : (s : Bool) (d k : ℕ) (y : Float) → d < 2 ^ 53 → HasValue y s (2 ^ 52 * 2 ^ k) (2 ^ 1074)
    → mul binary64 (fraction d) y ≡ round binary64 s (d * 2 ^ k) (2 ^ 1074)
scaled s d k y h v =
    product (fraction d) y false s d (2 ^ 52) (2 ^ 52 * 2 ^ k) (2 ^ 1074) (lit< tt) (pow_pos 1074) (fraction_value d h) v ∙ signed s
  where
    group : (d p q r : ℕ) → d * (q * p) * r ≡ d * p * (q * r)
    group d p q r = simp (mul_assoc, mul_left_comm)

    same : (t : Bool) → round binary64 t (d * (2 ^ 52 * 2 ^ k)) (2 ^ 52 * 2 ^ 1074) ≡ round binary64 t (d * 2 ^ k) (2 ^ 1074)
    same t =
        round_same binary64 t (d * (2 ^ 52 * 2 ^ k)) (2 ^ 52 * 2 ^ 1074) (d * 2 ^ k) (2 ^ 1074) (mul-pos (pow_pos 52) (pow_pos 1074)) (pow_pos 1074)
        (group d (2 ^ k) (2 ^ 52) (2 ^ 1074))

    signed : (t : Bool) → round binary64 (unlike false t) (d * (2 ^ 52 * 2 ^ k)) (2 ^ 52 * 2 ^ 1074) ≡ round binary64 t (d * 2 ^ k) (2 ^ 1074)
    signed true = same true
    signed false = same false

-- ---- remainders of whole numbers
pub mod_scale : (a b k : ℕ) → 0 < b → 0 < k → a * k % (b * k) ≡ a % b * k
mod_scale a b k B K =
    ap (λ (x : ℕ). x % (b * k)) (sym (ap (λ (x : ℕ). x * k) (div-add-mod' a b)) ∙ add-mul (a / b * b) (a % b) k ∙ ap (λ (x : ℕ). x + a % b * k) (mul_assoc (a / b) b k))
    ∙ mul-add-mod_self_right (a / b) (b * k) (a % b * k)
    ∙ mod-eq_of_lt (mul-lt-mul_of_pos_right (mod-lt a B) K)

twice : (a b r : ℕ) → r ≡ a % b → (r + r) % b ≡ a * 2 % b
twice a b r h = ap (λ (x : ℕ). (x + x) % b) h ∙ sym (add-mod a a b) ∙ ap (λ (x : ℕ). x % b) (two a)
  where
    two : (a : ℕ) → a + a ≡ a * 2
    two a = omega arith

power : (a k : ℕ) → a * 2 ^ k * 2 ≡ a * 2 ^ (k + 1)
power a k = mul_assoc a (2 ^ k) 2 ∙ ap (λ (x : ℕ). a * x) (sym (pow-add 2 k 1))

pub double_below : (a k b r : ℕ) → r ≡ a * 2 ^ k % b → r + r < b → r + r ≡ a * 2 ^ (k + 1) % b
double_below a k b r h l = sym (mod-eq_of_lt l) ∙ twice (a * 2 ^ k) b r h ∙ ap (λ (x : ℕ). x % b) (power a k)

pub double_over : (a k b r : ℕ) → 0 < b → r ≡ a * 2 ^ k % b → b ≤ r + r → r + r - b ≡ a * 2 ^ (k + 1) % b
double_over a k b r B h l =
    let s : r < b = subst (λ (x : ℕ). x < b) (sym h) (mod-lt (a * 2 ^ k) B) in
    let t : r + r - b < b = omega arith in
    sym (mod-eq_of_lt t) ∙ sym (mod-eq-sub-mod l) ∙ twice (a * 2 ^ k) b r h ∙ ap (λ (x : ℕ). x % b) (power a k)

-- ---- the remainder of two numbers that are so many units
pub rem_units : (x y : Float) (s t : Bool) (a b c : ℕ) → 0 < c → 0 < b → HasValue x s a c → HasValue y t b c → rem binary64 x y ≡ round binary64 s (a % b) c
unfolding rem
rem_units nan y s t a b c C B h k = absurd h
rem_units (inf u) y s t a b c C B h k = absurd h
rem_units (fin u m e) nan s t a b c C B h k = absurd k
rem_units (fin u m e) (inf v) s t a b c C B h k = absurd k
rem_units (fin u m e) (fin v n d) s t a b c C B h k =
    let p = m * up e * down d in
    let q = n * up d * down e in
    let g = down e * down d in
    let G : 0 < g = mul-pos (down_pos e) (down_pos d) in
    let pc : p * c ≡ a * g = mul_right_comm (m * up e) (down d) c ∙ ap (λ (x : ℕ). x * down d) h.1 ∙ mul_assoc a (down e) (down d) in
    let qc : q * c ≡ b * g =
    mul_right_comm (n * up d) (down e) c ∙ ap (λ (x : ℕ). x * down e) k.1 ∙ mul_assoc b (down d) (down e) ∙ ap (λ (x : ℕ). b * x) (mul_comm (down d) (down e)) in
    let Q : 0 < q = first_pos q c (subst (λ (x : ℕ). 0 < x) (sym qc) (mul-pos B G)) in
    let N : 0 < n = first_pos n (up d) (first_pos (n * up d) (down e) Q) in
    subst (λ (z : Bool). cond z nan (round binary64 u (p % q) g) ≡ round binary64 s (a % b) c) (sym (ne_eqb n 0 (omega arith)))
    (ap (λ (z : Bool). round binary64 z (p % q) g) h.0
    ∙ round_same binary64 s (p % q) g (a % b) c G C
    (sym (mod_scale p q c Q C) ∙ ap (λ (x : ℕ). x % (q * c)) pc ∙ ap (λ (x : ℕ). a * g % x) qc ∙ mod_scale a b g B G))

-- the digits are fewer than 2^53, and as many as that where they are shifted
below : (m k n l : ℕ) → m < 2 ^ 53 → k < l → 2 ^ 52 ≤ n → m * 2 ^ k < n * 2 ^ l
below m k n l M K N =
    lt_of_lt_of_le (mul-lt-mul_of_pos_right M (pow_pos k))
    (le_trans (le_of_eq (omega (arith, pow-succ' 2 k))) (mul-le-mul N (pow_mono {i = suc k} {j = l} K)))

pub rem_small : (x y : Float) (s t : Bool) (m k n l : ℕ) → m < 2 ^ 53 → k < l → 2 ^ 52 ≤ n → HasValue x s (m * 2 ^ k) (2 ^ 1074) → HasValue y t (n * 2 ^ l) (2 ^ 1074)
    → rem binary64 x y ≡ round binary64 s (m * 2 ^ k) (2 ^ 1074)
rem_small x y s t m k n l M K N h v =
    rem_units x y s t (m * 2 ^ k) (n * 2 ^ l) (2 ^ 1074) (pow_pos 1074) (mul-pos (lt_of_lt_of_le (lit< tt) N) (pow_pos l)) h v
    ∙ ap (λ (z : ℕ). round binary64 s z (2 ^ 1074)) (mod-eq_of_lt (below m k n l M K N))

pub rem_shifted : (x y : Float) (s t : Bool) (m k n l : ℕ) → l ≤ k → 0 < n → HasValue x s (m * 2 ^ k) (2 ^ 1074) → HasValue y t (n * 2 ^ l) (2 ^ 1074)
    → rem binary64 x y ≡ round binary64 s (m * 2 ^ (k - l) % n * 2 ^ l) (2 ^ 1074)
rem_shifted x y s t m k n l K N h v =
    rem_units x y s t (m * 2 ^ k) (n * 2 ^ l) (2 ^ 1074) (pow_pos 1074) (mul-pos N (pow_pos l)) h v
    ∙ ap (λ (z : ℕ). round binary64 s z (2 ^ 1074)) (ap (λ (z : ℕ). z % (n * 2 ^ l)) shift ∙ mod_scale (m * 2 ^ (k - l)) n (2 ^ l) N (pow_pos l))
  where
    back : k - l + l ≡ k
    back = omega arith

    shift : m * 2 ^ k ≡ m * 2 ^ (k - l) * 2 ^ l
    shift = ap (λ (z : ℕ). m * 2 ^ z) (sym back) ∙ ap (λ (z : ℕ). m * z) (pow-add 2 (k - l) l) ∙ sym (mul_assoc m (2 ^ (k - l)) (2 ^ l))

-- ---- where there is no remainder, and where it is x
abbrev pub no_remainder : (x y : Float) → Bool
no_remainder x y = not (float_is_finite x) || is_nan y || eq y zero64

zero_size : (t : Bool) (a b : ℕ) → (eqb a b && (beq t false || eqb a 0)) ≡ true → b ≡ 0 → a ≡ 0
zero_size t a b h z = go (eqb a b) refl h
  where
    go : (p : Bool) → eqb a b ≡ p → (p && (beq t false || eqb a 0)) ≡ true → a ≡ 0
    go true e h = eqb-true a b e ∙ z
    go false e h = absurd (true≢false (sym h))

pub rem_none : (x y : Float) → no_remainder x y ≡ true → nan ≡ rem binary64 x y
unfolding rem float_is_finite is_nan eq
rem_none nan y h = refl
rem_none (inf s) y h = refl
rem_none (fin s m e) nan h = refl
rem_none (fin s m e) (inf t) h = absurd (true≢false (sym h))
rem_none (fin s m e) (fin t n d) h =
    let z : n * up d * 1 ≡ 0 = zero_size t (n * up d * 1) (0 * down d) h (omega arith) in
    subst (λ (b : Bool). nan ≡ cond b nan (round binary64 s (m * up e * down d % (n * up d * down e)) (down e * down d))) (sym (eq-eqb n 0 (no_digits n (up d) (up_pos d) z))) refl
  where
    no_digits : (n u : ℕ) → 0 < u → n * u * 1 ≡ 0 → n ≡ 0
    no_digits n u U z = elim (eq-zero-or-pos n) [ inl e ↦ e | inr p ↦ absurd (let q : 0 < n * u = mul-pos p U in omega (arith, q)) ]

split : (a b c : Bool) → (not a || b || c) ≡ false → (a ≡ true) × (b ≡ false) × (c ≡ false)
split true false false h = (refl, refl, refl)
split true false true h = absurd (true≢false h)
split true true c h = absurd (true≢false h)
split false b c h = absurd (true≢false h)

pub some_remainder : (x y : Float) → no_remainder x y ≡ false → (float_is_finite x ≡ true) × (is_nan y ≡ false) × (eq y zero64 ≡ false)
some_remainder x y h = split (float_is_finite x) (is_nan y) (eq y zero64) h

pub rem_infinite : (x y : Float) → float_is_finite x ≡ true → is_nan y ≡ false → float_is_finite y ≡ false → x ≡ rem binary64 x y
unfolding rem is_nan float_is_finite
rem_infinite nan y h k l = absurd (true≢false (sym h))
rem_infinite (inf s) y h k l = absurd (true≢false (sym h))
rem_infinite (fin s m e) nan h k l = absurd (true≢false k)
rem_infinite (fin s m e) (inf t) h k l = refl
rem_infinite (fin s m e) (fin t n d) h k l = absurd (true≢false l)

pub some_digits : (y : Float) (t : Bool) (n l : ℕ) → eq y zero64 ≡ false → HasValue y t (n * 2 ^ l) (2 ^ 1074) → 0 < n
unfolding eq
some_digits nan t n l h v = absurd v
some_digits (inf u) t n l h v = absurd v
some_digits (fin u m e) t n l h v = elim (eq-zero-or-pos n) [ inl z ↦ absurd (true≢false (sym (level (m * up e) (nothing z)) ∙ h)) | inr p ↦ p ]
  where
    either : (u : Bool) → (beq u false || true) ≡ true
    either true = refl
    either false = refl

    nothing : n ≡ 0 → m * up e ≡ 0
    nothing z = let e : n * 2 ^ l * down e ≡ 0 = rw z (omega arith) in omega (arith, v.1)

    level : (a : ℕ) → a ≡ 0 → (eqb (a * 1) (0 * down e) && (beq u false || eqb (a * 1) 0)) ≡ true
    level a z = rw (z, zero-mul (down e)) (either u)
