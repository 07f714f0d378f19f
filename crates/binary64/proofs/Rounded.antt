-- What `round` gives at binary64 of a fraction that is at most b / c, a number that rounding leaves as it is: a finite number of its sign, at most
-- b / c in size. Rounding keeps the order, so what is rounded is at most b / c, and below a finite number there is no infinity of the sign +.
-- A fraction of the sign - is rounded to the same size. Assumes nothing.
use mathlib.Core.Path.{◌≡◌, refl, sym, ap, subst, ◌∙◌}
use Prim.Native.Nat.{ℕ, zero, suc, ◌+◌, ◌*◌, ◌^◌, ◌≤◌, ◌<◌}
use native.Mathlib.Nat.{le_trans, le_of_eq, le_of_lt, mul_comm, mul_assoc, mul_left_comm, mul-le-mul_right, le_of_mul-le-mul_right, mul-pos}
use mathlib.Core.Bool.{Bool, true, false, cond, ◌&&◌, ◌||◌, true≢false}
use lib.Dec.{T, ltb, eqb, ltb→lt, eqb→eq}
use lib.Pow.{pow_pos}
use lib.Ieee.{Float, nan, inf, fin, binary64, prec, emax, low, up, down, odd, units, round, le}
use lib.Ieee.Fits.{round_is, down_pos}
use lib.Ieee.Exact.{HasValue, units_val}
use lib.Ieee.Order.{round_mono, kept, drop}
use lib.Ieee.Scale.{grid, overflow, finite, round_under}

-- of the sign s, finite, and at most b / c in size
abbrev pub Within : (b c : ℕ) → Bool → Float → Type 0
Within b c s nan = ⊥
Within b c s (inf t) = ⊥
Within b c s (fin t m e) = (t ≡ s) × (m * up e * c ≤ b * down e)

-- no NaN and not of the sign -
abbrev pub Plus : Float → Type 0
Plus nan = ⊥
Plus (inf t) = t ≡ false
Plus (fin t m e) = t ≡ false

odd_plus : (d q k l : ℕ) → Plus (odd d false q k l)
unfolding odd
odd_plus d zero k l = refl
odd_plus d (suc q) k l = refl

units_plus : (q k : ℕ) → Plus (units binary64 false q k)
unfolding units
units_plus q k = go (ltb (q * 2 ^ k) (2 ^ (low binary64 + suc (emax binary64))))
  where
    go : (b : Bool) → Plus (cond b (odd (suc (prec binary64)) false q k (low binary64)) (inf false))
    go true = odd_plus (suc (prec binary64)) q k (low binary64)
    go false = refl

pub round_plus : (num den : ℕ) → Plus (round binary64 false num den)
round_plus num den = subst Plus (sym (round_is binary64 false num den)) (units_plus (kept 53 (num * 2 ^ low binary64) den) (drop 53 (num * 2 ^ low binary64) den))

or_le : (a b : ℕ) → T (ltb a b || (eqb a b && true)) → a ≤ b
or_le a b t = go (ltb a b) (eqb a b) (ltb→lt a b) (eqb→eq a b) t
  where
    go : (p q : Bool) → (T p → a < b) → (T q → a ≡ b) → T (p || (q && true)) → a ≤ b
    go true q f g t = le_of_lt (f tt)
    go false true f g t = le_of_eq (g tt)
    go false false f g t = absurd t

-- below a finite number lies no infinity of the sign +
under : (x y : Float) (b c : ℕ) → Plus x → HasValue y false b c → T (le x y) → T (finite x)
unfolding le
under nan y b c p v t = absurd p
under (fin s m e) y b c p v t = tt
under (inf true) y b c p v t = absurd (true≢false p)
under (inf false) nan b c p v t = absurd v
under (inf false) (inf s) b c p v t = absurd v
under (inf false) (fin s n d) b c p v t = absurd t

regroup : (x y z : ℕ) → x * y * z ≡ x * z * y
regroup x y z = simp (mul_assoc, mul_comm)

-- the order of two values, as that of the fractions a / g and b / c that they are
order : (x y : Float) (a g b c : ℕ) → HasValue x false a g → HasValue y false b c → T (le x y) → a * c ≤ b * g
unfolding le
order nan y a g b c p q t = absurd p
order (inf s) y a g b c p q t = absurd p
order (fin true m e) y a g b c p q t = absurd (true≢false p.0)
order (fin false m e) nan a g b c p q t = absurd q
order (fin false m e) (inf s) a g b c p q t = absurd q
order (fin false m e) (fin true n d) a g b c p q t = absurd (true≢false q.0)
order (fin false m e) (fin false n d) a g b c p q t =
    let h : m * up e * down d ≤ n * up d * down e = or_le (m * up e * down d) (n * up d * down e) t in
    let l : a * c * (down e * down d) ≡ m * up e * down d * (g * c) =
    split a c (down e) (down d) ∙ ap (λ (z : ℕ). z * (c * down d)) (sym p.1) ∙ split' (m * up e) g c (down d) in
    let r : n * up d * down e * (g * c) ≡ b * g * (down e * down d) =
    split'' (n * up d) (down e) g c ∙ ap (λ (z : ℕ). z * (g * down e)) q.1 ∙ simp (mul_assoc, mul_comm, mul_left_comm) in
    le_of_mul-le-mul_right (le_trans (le_of_eq l) (le_trans (mul-le-mul_right (g * c) h) (le_of_eq r))) (mul-pos (down_pos e) (down_pos d))
  where
    split : (a c u v : ℕ) → a * c * (u * v) ≡ a * u * (c * v)
    split a c u v = simp (mul_assoc, mul_left_comm)

    split' : (x g c v : ℕ) → x * g * (c * v) ≡ x * v * (g * c)
    split' x g c v = simp (mul_assoc, mul_comm, mul_left_comm)

    split'' : (y u g c : ℕ) → y * u * (g * c) ≡ y * c * (g * u)
    split'' y u g c = simp (mul_assoc, mul_comm, mul_left_comm)

narrow : (x : Float) (s : Bool) (g b c : ℕ) → g * c ≤ b * 2 ^ low binary64 → HasValue x s g (2 ^ low binary64) → Within b c s x
narrow nan s g b c h v = v
narrow (inf t) s g b c h v = v
narrow (fin t m e) s g b c h v = (
  v.0,
  le_of_mul-le-mul_right
      (le_trans (le_of_eq (regroup (m * up e) c (2 ^ low binary64) ∙ ap (λ (z : ℕ). z * c) v.1 ∙ regroup g (down e) c))
      (le_trans (mul-le-mul_right (down e) h) (le_of_eq (regroup b (2 ^ low binary64) (down e)))))
      (pow_pos (low binary64)),
)

pub round_within : (s : Bool) (num den b c : ℕ) → 0 < den → 0 < c → HasValue (round binary64 false b c) false b c → num * c ≤ b * den → Within b c s (round binary64 s num den)
round_within s num den b c D C yv h =
    let l = low binary64 in
    let x = round binary64 false num den in
    let y = round binary64 false b c in
    let o : T (le x y) = round_mono binary64 num den b c D C h in
    let fine : grid binary64 num den < overflow binary64 = round_under binary64 num den (under x y b c (round_plus num den) yv o) in
    let q = kept 53 (num * 2 ^ l) den in
    let k = drop 53 (num * 2 ^ l) den in
    let at : (t : Bool) → HasValue (round binary64 t num den) t (grid binary64 num den) (2 ^ l) =
    λ t. subst (λ (z : Float). HasValue z t (grid binary64 num den) (2 ^ l)) (sym (round_is binary64 t num den)) (units_val binary64 t q k fine) in
    narrow (round binary64 s num den) s (grid binary64 num den) b c (order x y (grid binary64 num den) (2 ^ l) b c (at false) yv o) (at s)
