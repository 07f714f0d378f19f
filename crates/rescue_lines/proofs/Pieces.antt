-- A text put together from pieces: the first piece stands at the front of the buffer, and each call that is lent the buffer from there on adds one.
-- Assumes nothing.
use Prim.Native.Nat.{ℕ, ◌+◌, ◌-◌, ◌≤◌}
use mathlib.Core.Path.{◌≡◌, refl, ap, sym}
use mathlib.Core.List.{List, [], ◌++◌}
use native.Mathlib.Omega.{arith}
use lib.ListN.{length, take, drop, length-append}
use Rattle.bigendian.proofs.Filling.{Filling, filling_sum, filling_more, filling_all}
use Rattle.text.proofs.Pieces.{Puts, lent_from}

-- the first piece, and the room for it
module _ (whole old piece more : List ℕ) (h : length whole ≤ length old) (e : whole ≡ piece ++ more) where
  pub first_room : length piece ≤ length old
  first_room = omega (arith, ap length e, length-append piece more)

  pub first_piece : (n : ℕ) (new : List ℕ) → Puts piece old n new → Filling old whole new n more
  first_piece n new p = record { done = piece; size = sym p.0; bytes = p.1; left = sym e; room = h }

module _ {old whole s rest : List ℕ} {n : ℕ} (f : Filling old whole s n rest) where
  -- one more
  pub next_piece : (piece more ys : List ℕ) (m : ℕ) → rest ≡ piece ++ more → Puts piece (take (length s - n) (drop n s)) m ys → Filling old whole (lent_from s n ys) (n + m) more
  next_piece piece more ys m e p = rw p.0 (filling_more f piece more ys e p.1)

  -- what is put is not longer than the whole
  pub pieces_most : n ≤ length whole
  pieces_most = omega (arith, filling_sum f)

-- with the last piece the whole text stands there
pub all_pieces : {old whole s : List ℕ} {n : ℕ} → Filling old whole s n [] → Puts whole old n s
all_pieces f = (omega (arith, filling_sum f), filling_all f refl)
