-- Texts put at the front of a buffer, one behind another: a call that is lent the buffer from there on adds its own. Assumes nothing.
use Prim.Native.Nat.{ℕ, suc, ◌+◌, ◌-◌, ◌≤◌, ◌<◌}
use mathlib.Core.Path.{◌≡◌, ap, sym, ◌∙◌}
use mathlib.Core.List.{List, [], ◌∷◌, ◌++◌, append-nil}
use native.Mathlib.Omega.{arith}
use native.Mathlib.Numerals.{add-one}
use lib.ListN.{length, take, drop, set, length-append, length-take, length-drop}
use lib.Seq.{take_all, drop-length, drop-drop, set_split}
use Rattle.bigendian.specs.Buffers.{at_front}
use Rattle.bigendian.proofs.Buffers.{front_copy, front_length, front_take, front_within, front_behind, front_more}

-- r bytes of text stand at the front of a buffer that was `old` and is `new`
abbrev pub Puts : (text old : List ℕ) (r : ℕ) (new : List ℕ) → Type 0
Puts text old r new = (r ≡ length text) × (new ≡ at_front text old)

-- a copy puts them there
pub copied : (src text old : List ℕ) (r : ℕ) (new : List ℕ) → r ≡ length src → new ≡ take (length src) src ++ drop (length src) old → src ≡ text → Puts text old r new
copied src text old r new size is e = rw (← e) (size, is ∙ front_copy src old)

-- what stands in a buffer s when a call that was lent it from n on has left ys there
abbrev pub lent_from : (s : List ℕ) (n : ℕ) (ys : List ℕ) → List ℕ
lent_from s n ys = take n s ++ (ys ++ drop (length s - n) (drop n s))

module _ (a old : List ℕ) (n : ℕ) (s : List ℕ) (p : Puts a old n s) where
  front : take n s ≡ a
  front = rw p.1 (front_take a old n (sym p.0))

  behind : drop n s ≡ drop n old
  behind = rw p.1 (front_behind a old n (sym p.0))

  -- a text that fits leaves the buffer as long as it is
  pub put_length : length a ≤ length old → length s ≡ length old
  put_length h = rw p.1 (front_length a old h)

  -- it stands within the buffer
  pub put_within : n ≤ length s
  put_within = rw (p.0, p.1) (front_within a old)

  -- where two texts fit, there is room for the second behind the first
  pub put_room : (b : List ℕ) → length (a ++ b) ≤ length old → length b ≤ length (take (length s - n) (drop n s))
  put_room b h = simp (length-take, length-drop) (omega (arith, p.0, length-append a b, put_length (omega (arith, length-append a b))))

  -- one more text
  pub more_put : (b ys : List ℕ) (m : ℕ) → Puts b (take (length s - n) (drop n s)) m ys → Puts (a ++ b) old (n + m) (lent_from s n ys)
  more_put b ys m q =
      let lent : take (length s - n) (drop n s) ≡ drop n old = take_all (length s - n) (drop n s) (omega (arith, length-drop n s)) ∙ behind in
      let unlent : drop (length s - n) (drop n s) ≡ [] = ap (λ (k : ℕ). drop k (drop n s)) (sym (length-drop n s)) ∙ drop-length (drop n s) in (
        omega (arith, p.0, q.0, length-append a b),
        rw (front, unlent, append-nil, q.1, lent) (sym (front_more a b old n (sym p.0))),
      )

  -- one more byte
  pub byte_put : (x : ℕ) → n < length s → Puts (a ++ x ∷ []) old (n + 1) (set s n x)
  unfolding at_front
  byte_put x h =
      let e : drop (suc n) s ≡ drop 1 (drop n old) = sym (rw drop-drop (ap (λ (k : ℕ). drop k s) (add-one n))) ∙ ap (drop 1) behind in (
        omega (arith, p.0, length-append a (x ∷ [])),
        rw (set_split s n x h, front, e) (sym (front_more a (x ∷ []) old n (sym p.0))),
      )
