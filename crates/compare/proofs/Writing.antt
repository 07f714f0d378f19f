-- The list is written entry by entry: what is done, and what the walk still lists, are the whole list. Assumes nothing.
use Prim.Native.Nat.{ℕ, ◌+◌, ◌-◌, ◌≤◌, ◌<◌}
use mathlib.Core.Path.{◌≡◌, refl, ap, ap₂, sym, ◌∙◌}
use mathlib.Core.Bool.{Bool, true, false, ◌||◌}
use mathlib.Core.List.{List, [], ◌∷◌, ◌++◌}
use native.Mathlib.Omega.{arith}
use lib.Dec.{ltb}
use lib.ListN.{length, take, drop, length-append}
use borrow.Author.Tests.{ltb-false}
use Rattle.bigendian.specs.Buffers.{at_front}
use Rattle.bigendian.proofs.Filling.{Filling, filling_none, filling_sum, filling_room, filling_more, filling_all}
use Rattle.instants.proofs.Accepted.{both_false}
use Rattle.record.specs.declared.Record.{Record}
use Rattle.files.specs.Inner.{at_end, Standing}
use Rattle.compare.specs.declared.Place.{Place}
use Rattle.compare.specs.Walk.{walk}
use Rattle.compare.specs.Compare.{list_bytes}
use Rattle.compare.specs.Inner.{records_from, start_of, next_place, here, Going, Fits}
use Rattle.compare.proofs.Entries.{list_length, list_append}
use Rattle.compare.proofs.Walks.{walk_none}
use Rattle.compare.proofs.Steps.{none_left, stepped, first_standing, second_standing}

-- what is left to write from the places i and j on
abbrev left : List ℕ → List ℕ → ℕ → ℕ → List ℕ
left s t i j = list_bytes (walk (records_from s i) (records_from t j))

pub record Writing (s t : List ℕ) (needed : ℕ) (old list : List ℕ) (p : Place) (done : ℕ) : Type 0 where
  pub fits : Fits s t needed (length old)
  pub first : Standing s p.first p.m
  pub second : Standing t p.second p.n
  pub fills : Filling old (left s t 0 0) list done (left s t p.first p.second)

pub writing_none : (s t : List ℕ) (needed : ℕ) (old : List ℕ) (p : Place) → Fits s t needed (length old) → p ≡ start_of s t → Writing s t needed old old p 0
writing_none s t needed old p f e = record {
  fits = f;
  first = first_standing s t p e;
  second = second_standing s t p e;
  fills = rw e (filling_none old (left s t 0 0) (omega (arith, f.all, f.room, list_length (walk (records_from s 0) (records_from t 0)))));
}

module _ {s t : List ℕ} {needed : ℕ} {old list : List ℕ} {p : Place} {done : ℕ} (w : Writing s t needed old list p done) where
  -- all that is needed is the whole list
  pub writing_whole : length (left s t 0 0) ≡ needed
  writing_whole = list_length (walk (records_from s 0) (records_from t 0)) ∙ sym w.fits.all

  -- where both files have ended nothing is left
  ended : (ltb p.m at_end || ltb p.n at_end) ≡ false → left s t p.first p.second ≡ []
  ended e =
      let b = both_false (ltb p.m at_end) (ltb p.n at_end) e in
      ap₂ (λ (rs qs : List Record). list_bytes (walk rs qs))
      (none_left w.first w.fits.first (ltb-false p.m at_end b.0))
      (none_left w.second w.fits.second (ltb-false p.n at_end b.1))
      ∙ ap list_bytes walk_none

  module _ (h : done < needed) where
    -- so where something is left the walk goes on
    pub writing_going : Going s t p true
    writing_going = record { first = w.first; second = w.second; going = by (ltb p.m at_end || ltb p.n at_end) refl; sounds = λ _. (w.fits.first, w.fits.second) }
      where
        by : (b : Bool) → (ltb p.m at_end || ltb p.n at_end) ≡ b → b ≡ true
        by true e = refl
        by false e = absurd (omega (arith, filling_sum w.fills, ap length (ended e), writing_whole))

    -- what is listed here is the next piece
    next_piece : left s t p.first p.second ≡ list_bytes (here s t p) ++ left s t (next_place s t p).first (next_place s t p).second
    next_piece = ap list_bytes ((stepped writing_going).lists w.fits.first w.fits.second) ∙ list_append (here s t p) _

    pub writing_room : length (list_bytes (here s t p)) ≤ length (take (length list - done) (drop done list))
    writing_room = filling_room w.fills (list_bytes (here s t p)) _ next_piece

    pub writing_most : done + length (list_bytes (here s t p)) ≤ needed
    writing_most =
        omega (arith, filling_sum w.fills, ap length next_piece, length-append (list_bytes (here s t p)) (left s t (next_place s t p).first (next_place s t p).second), writing_whole)

    pub writing_more : (a : ℕ) (q : Place) (ys : List ℕ) → a ≡ length (list_bytes (here s t p)) → q ≡ next_place s t p → ys ≡ at_front (list_bytes (here s t p)) (take (length list - done) (drop done list))
        → Writing s t needed old (take done list ++ (ys ++ drop (length list - done) (drop done list))) q (done + a)
    writing_more a q ys x y z =
        rw (x, y)
        (record {
          fits = w.fits;
          first = (stepped writing_going).first;
          second = (stepped writing_going).second;
          fills = filling_more w.fills (list_bytes (here s t p)) _ ys next_piece z;
        })

  -- all is written
  pub writing_all : needed ≤ done → list ≡ at_front (left s t 0 0) old
  writing_all h = filling_all w.fills (nothing (left s t p.first p.second) (omega (arith, filling_sum w.fills, writing_whole)))
    where
      nothing : (l : List ℕ) → length l ≡ 0 → l ≡ []
      nothing [] e = refl
      nothing (x ∷ l) e = absurd (omega arith)
