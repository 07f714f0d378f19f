-- A buffer that is filled piece by piece, each behind the one before: what is done, and what is left of the whole. A piece is written by a call that is lent
-- all of the buffer from there on. Assumes nothing.
use Rattle.std.proofs.Common.{◌≡◌, ℕ, ◌+◌, ◌-◌, ◌≤◌, List, [], ◌++◌, length, take, drop, sym, refl, ap, ◌∙◌, append_assoc, append-nil, arith, length-append, length-drop, take_all}
use lib.Seq.{drop-length}
use Rattle.bigendian.specs.Buffers.{at_front}
use Rattle.bigendian.proofs.Buffers.{front_none, front_length, front_take, front_behind, front_more}

-- of `whole` n bytes stand at the front of s, which was `old`, and `rest` is left
pub record Filling (old whole s : List ℕ) (n : ℕ) (rest : List ℕ) : Type 0 where
  pub done : List ℕ
  pub size : length done ≡ n
  pub bytes : s ≡ at_front done old
  pub left : done ++ rest ≡ whole
  pub room : length whole ≤ length old

-- nothing is done at first
pub filling_none : (old whole : List ℕ) → length whole ≤ length old → Filling old whole old 0 whole
filling_none old whole h = record { done = []; size = refl; bytes = sym (front_none old); left = refl; room = h }

module _ {old whole s : List ℕ} {n : ℕ} {rest : List ℕ} (f : Filling old whole s n rest) where
  -- what is done and what is left
  pub filling_sum : n + length rest ≡ length whole
  filling_sum = omega (arith, f.size, length-append f.done rest, ap length f.left)

  pub filling_length : length s ≡ length old
  filling_length = ap length f.bytes ∙ front_length f.done old (omega (arith, f.size, filling_sum, f.room))

  -- the part that is lent for the next piece
  pub filling_lent : take (length s - n) (drop n s) ≡ drop n old
  filling_lent = take_all (length s - n) (drop n s) (omega (arith, length-drop n s)) ∙ rw f.bytes (front_behind f.done old n f.size)

  pub filling_within : n ≤ length s
  filling_within = omega (arith, filling_sum, filling_length, f.room)

  -- which has room for it
  pub filling_room : (piece more : List ℕ) → rest ≡ piece ++ more → length piece ≤ length (take (length s - n) (drop n s))
  filling_room piece more e =
      let l : length (take (length s - n) (drop n s)) ≡ length old - n = ap length filling_lent ∙ length-drop n old in
      omega (arith, l, filling_sum, f.room, ap length e, length-append piece more)

  -- one more piece
  pub filling_more : (piece more ys : List ℕ) → rest ≡ piece ++ more → ys ≡ at_front piece (take (length s - n) (drop n s))
      → Filling old whole (take n s ++ (ys ++ drop (length s - n) (drop n s))) (n + length piece) more
  filling_more piece more ys e p =
      let t : take n s ≡ f.done = rw f.bytes (front_take f.done old n f.size) in
      let u : drop (length s - n) (drop n s) ≡ [] = ap (λ (k : ℕ). drop k (drop n s)) (sym (length-drop n s)) ∙ drop-length (drop n s) in
      let y : ys ≡ at_front piece (drop n old) = p ∙ ap (at_front piece) filling_lent in
      record {
        done = f.done ++ piece;
        size = omega (arith, f.size, length-append f.done piece);
        bytes = rw (t, u, append-nil, y) (sym (front_more f.done piece old n f.size));
        left = append_assoc f.done piece more ∙ (ap (λ (l : List ℕ). f.done ++ l) (sym e) ∙ f.left);
        room = f.room;
      }

  -- where nothing is left
  pub filling_all : rest ≡ [] → s ≡ at_front whole old
  filling_all e = f.bytes ∙ ap (λ (l : List ℕ). at_front l old) (sym (append-nil f.done) ∙ (ap (λ (l : List ℕ). f.done ++ l) (sym e) ∙ f.left))
