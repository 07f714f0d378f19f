-- Bytes at the front of a buffer: what stands there, what is behind, and one piece behind another. n is the number of the bytes.
-- Assumes nothing.
use Rattle.std.proofs.Common.{◌≡◌, ℕ, ◌≤◌, List, [], ◌++◌, length, take, drop, sym, refl, ap, append_assoc, arith, length-append, length-drop, drop-drop, take_at, drop_at}
use lib.Seq.{take-length}
use Rattle.bigendian.specs.Buffers.{at_front}

-- with the number of the bytes in place of their length
pub front_is : (b old : List ℕ) (n : ℕ) → length b ≡ n → at_front b old ≡ b ++ drop n old
unfolding at_front
front_is b old n e = ap (λ (k : ℕ). b ++ drop k old) e

pub front_none : (old : List ℕ) → at_front [] old ≡ old
unfolding at_front
front_none old = refl

-- a copy of all of b over the front
pub front_copy : (b old : List ℕ) → take (length b) b ++ drop (length b) old ≡ at_front b old
unfolding at_front
front_copy b old = ap (λ (l : List ℕ). l ++ drop (length b) old) (take-length b)

-- bytes that fit leave the buffer as long as it is
pub front_length : (b old : List ℕ) → length b ≤ length old → length (at_front b old) ≡ length old
unfolding at_front
front_length b old h = simp (length-append, length-drop) (omega arith)

pub front_take : (b old : List ℕ) (n : ℕ) → length b ≡ n → take n (at_front b old) ≡ b
unfolding at_front
front_take b old n e = take_at b _ n e

-- they are all there
pub front_within : (b old : List ℕ) → length b ≤ length (at_front b old)
unfolding at_front
front_within b old = simp length-append (omega arith)

-- what is behind is as it was
pub front_behind : (b old : List ℕ) (n : ℕ) → length b ≡ n → drop n (at_front b old) ≡ drop n old
front_behind b old n e = rw (front_is b old n e) (drop_at b (drop n old) n e)

-- What a buffer keeps whose first n bytes are written anew: its length, and what is behind them.
pub record Keeps (n : ℕ) (old new : List ℕ) : Type 0 where
  pub size : length new ≡ length old
  pub behind : drop n new ≡ drop n old

-- one that is as it was
pub kept : (n : ℕ) (old : List ℕ) → Keeps n old old
kept n old = record { size = refl; behind = refl }

-- and one with n bytes at its front
pub front_keeps : (b old : List ℕ) (n : ℕ) → length b ≡ n → n ≤ length old → Keeps n old (at_front b old)
front_keeps b old n e h = record { size = front_length b old (omega arith); behind = front_behind b old n e }

-- one more piece, behind the first
pub front_more : (b c old : List ℕ) (n : ℕ) → length b ≡ n → at_front (b ++ c) old ≡ b ++ at_front c (drop n old)
unfolding at_front
front_more b c old n e =
    rw (append_assoc, length-append, e) (ap (λ (l : List ℕ). b ++ (c ++ l)) (sym (drop-drop (length c) n old)))
