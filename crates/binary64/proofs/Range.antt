-- What any number, a NaN and the infinities too, is reduced to is in its range, for every period that rounding leaves as it is. The remainder by the
-- period is a NaN or at most the period in size; raised where it is negative, it is not below zero; and what is settled is below the period with the
-- sign +, or +0. Assumes nothing.
use mathlib.Core.Path.{◌≡◌, refl, sym, ap, subst, ◌∙◌}
use Prim.Native.Nat.{ℕ, ◌+◌, ◌-◌, ◌*◌, ◌%◌, ◌≤◌, ◌<◌}
use native.Mathlib.Nat.{le_trans, le_of_eq, le_of_lt, mul_assoc, mul-le-mul_right, mod-lt, mul-pos}
use native.Mathlib.Omega.{arith}
use mathlib.Core.Bool.{Bool, true, false, cond, ◌&&◌, true≢false}
use borrow.Author.Tests.{le-ltb, ltb-true, ltb-false}
use lib.Dec.{ltb, eqb}
use lib.IntN.{ℤ}
use lib.Ieee.{Float, nan, inf, fin, binary64, up, down, round, add, rem, sum, lt, eq}
use lib.Ieee.Exact.{HasValue}
use lib.Ieee.Fits.{up_pos, down_pos}
use Rattle.binary64.specs.Words.{zero64}
use Rattle.binary64.specs.Reduction.{raised, settled, reduced}
use Rattle.binary64.specs.Claims.{InRange}
use Rattle.binary64.proofs.Rounded.{Within, Plus, round_within, round_plus}

-- finite, above 0, and as rounding leaves it
abbrev pub IsPeriod : Float → Type 0
IsPeriod nan = ⊥
IsPeriod (inf t) = ⊥
IsPeriod (fin t n d) = (t ≡ false) × (0 < n) × (round binary64 false (n * up d) (down d) ≡ fin false n d)

-- +0 is in every range
pub zero_in_range : (p : Float) → IsPeriod p → InRange p zero64
zero_in_range nan h = absurd h
zero_in_range (inf t) h = absurd h
zero_in_range (fin t n d) h = (refl, let k : 0 < n * up d = mul-pos h.1 (up_pos d) in omega (arith, k))

-- ---- no number of the sign + is below zero
plus_above : (x : Float) → Plus x → lt x zero64 ≡ false
unfolding lt
plus_above nan p = absurd p
plus_above (inf true) p = absurd (true≢false p)
plus_above (inf false) p = refl
plus_above (fin true m e) p = absurd (true≢false p)
plus_above (fin false m e) p = le-ltb (m * up e * 1) (0 * down e) (omega arith)

round_above : (num den : ℕ) → lt (round binary64 false num den) zero64 ≡ false
round_above num den = plus_above (round binary64 false num den) (round_plus num den)

-- of the sign -, only a zero is not below zero
nought : (x y : ℕ) → x + y ≤ 0 → (eqb x y && eqb x 0) ≡ false → ⊥
nought x y h c =
    let p : x ≡ 0 = omega arith in
    let q : y ≡ 0 = omega arith in
    true≢false (sym (ap (λ (z : ℕ). eqb z y && eqb z 0) p ∙ ap (λ (z : ℕ). eqb 0 z && true) q) ∙ c)

-- ---- a period n * 2 ^ d
module _ (n : ℕ) (d : ℤ) (some : 0 < n) (same : round binary64 false (n * up d) (down d) ≡ fin false n d) where
  abbrev period : Float
  period = fin false n d

  -- the remainder is a NaN, or at most the period in size
  abbrev Small : Float → Type 0
  Small nan = Unit
  Small (inf s) = ⊥
  Small (fin s m e) = m * up e * down d ≤ n * up d * down e

  small_of : (s : Bool) (x : Float) → Within (n * up d) (down d) s x → Small x
  small_of s nan h = tt
  small_of s (inf t) h = h
  small_of s (fin t m e) h = h.1

  own : HasValue (round binary64 false (n * up d) (down d)) false (n * up d) (down d)
  own = subst (λ (x : Float). HasValue x false (n * up d) (down d)) (sym same) (refl, refl)

  rem_small : (x : Float) → Small (rem binary64 x period)
  unfolding rem
  rem_small nan = tt
  rem_small (inf s) = tt
  rem_small (fin s m e) = go (eqb n 0)
    where
      r : ℕ
      r = m * up e * down d % (n * up d * down e)

      cut : r * down d ≤ n * up d * (down e * down d)
      cut = le_trans (mul-le-mul_right (down d) (le_of_lt (mod-lt (m * up e * down d) (mul-pos (mul-pos some (up_pos d)) (down_pos e))))) (le_of_eq (mul_assoc (n * up d) (down e) (down d)))

      go : (b : Bool) → Small (cond b nan (round binary64 s r (down e * down d)))
      go true = tt
      go false = small_of s (round binary64 s r (down e * down d)) (round_within s r (down e * down d) (n * up d) (down d) (mul-pos (down_pos e) (down_pos d)) (down_pos d) own cut)

  -- raised it is not below zero
  up_above : (x : Float) → Small x → lt (add binary64 x period) zero64 ≡ false
  unfolding add sum
  up_above nan h = unfold lt in refl
  up_above (inf s) h = absurd h
  up_above (fin false m e) h = round_above (m * up e * down d + n * up d * down e) (down e * down d)
  up_above (fin true m e) h = go (ltb x y)
    where
      x : ℕ
      x = m * up e * down d

      y : ℕ
      y = n * up d * down e

      c : ℕ
      c = down e * down d

      go : (b : Bool) → lt (cond b (round binary64 false (y - x) c) (round binary64 (ltb y x) (x - y) c)) zero64 ≡ false
      go true = round_above (y - x) c
      go false = ap (λ (b : Bool). lt (round binary64 b (x - y) c) zero64) (le-ltb y x h) ∙ round_above (x - y) c

  raised_above : (r : Float) → Small r → lt (raised period r) zero64 ≡ false
  unfolding raised
  raised_above r h = go (lt r zero64) refl
    where
      go : (b : Bool) → lt r zero64 ≡ b → lt (cond b (add binary64 r period) r) zero64 ≡ false
      go true e = up_above r h
      go false e = e

  -- settled
  kept_in : (q : Float) → lt q zero64 ≡ false → lt q period ≡ true → eq q zero64 ≡ false → InRange period q
  unfolding lt eq
  kept_in nan a b c = absurd (true≢false (sym b))
  kept_in (inf true) a b c = absurd (true≢false a)
  kept_in (inf false) a b c = absurd (true≢false (sym b))
  kept_in (fin true m e) a b c = absurd (nought (m * up e * 1) (0 * down e) (ltb-false 0 (m * up e * 1 + 0 * down e) a) c)
  kept_in (fin false m e) a b c = (refl, ltb-true (m * up e * down d) (n * up d * down e) b)

  settled_in : (q : Float) → lt q zero64 ≡ false → InRange period (settled period q)
  unfolding settled
  settled_in q a = go (lt q period) (eq q zero64) refl refl
    where
      go : (b c : Bool) → lt q period ≡ b → eq q zero64 ≡ c → InRange period (cond b (cond c zero64 q) zero64)
      go true true e f = zero_in_range period (refl, some, same)
      go true false e f = kept_in q a e f
      go false c e f = zero_in_range period (refl, some, same)

  in_range : (x : Float) → InRange period (reduced period x)
  unfolding reduced
  in_range x = settled_in (raised period (rem binary64 x period)) (raised_above (rem binary64 x period) (rem_small x))

pub reduced_in_range : (p : Float) → IsPeriod p → (x : Float) → InRange p (reduced p x)
reduced_in_range nan h x = absurd h
reduced_in_range (inf t) h x = absurd h
reduced_in_range (fin true n d) h x = absurd (true≢false h.0)
reduced_in_range (fin false n d) h x = in_range n d h.1 h.2 x
