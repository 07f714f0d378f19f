-- Three words, each with a numeral behind it, and a last word are put one behind another.
use Rattle.std.proofs.Common.{◌≡◌, ◌+◌, ℕ, ◌-◌, ◌≤◌, List, [], ◌++◌, length, take, drop, refl, append_assoc, arith}
use Rattle.bigendian.proofs.Filling.{Filling, filling_within, filling_room}
use Rattle.rescue.specs.declared.Counts.{Counts}
use Rattle.text.specs.Text.{ascii, numeral}
use Rattle.text.proofs.Pieces.{Puts, lent_from}
use Rattle.rescue_lines.specs.Lines.{totals_text}
use Rattle.rescue_lines.proofs.Lines.{totals_most_lem}
use Rattle.rescue_lines.proofs.Pieces.{first_room, first_piece, next_piece, pieces_most, all_pieces}
use Rattle.rescue_lines.proofs.put_totals.Goals as goal

-- the pieces of the totals
abbrev kept : Counts → List ℕ
kept c = ascii "kept " ++ numeral c.kept

abbrev passed : Counts → List ℕ
passed c = ascii " records, passed " ++ numeral c.passed

abbrev ranges : Counts → List ℕ
ranges c = ascii " bytes in " ++ numeral c.ranges

are_totals : (c : Counts) → totals_text c ≡ kept c ++ (passed c ++ (ranges c ++ ascii " ranges\n"))
unfolding totals_text
are_totals c = simp append_assoc

-- what is put after each call
module _ (c : Counts) (old : List ℕ) (h : length (totals_text c) ≤ length old) (n : ℕ) (one : List ℕ) (p : Puts (kept c) old n one) where
  first : Filling old (totals_text c) one n (passed c ++ (ranges c ++ ascii " ranges\n"))
  first = first_piece (totals_text c) old (kept c) _ h (are_totals c) n one p

  module _ (m : ℕ) (two : List ℕ) (q : Puts (passed c) (take (length one - n) (drop n one)) m two) where
    abbrev filled2 : List ℕ
    filled2 = lent_from one n two

    second : Filling old (totals_text c) filled2 (n + m) (ranges c ++ ascii " ranges\n")
    second = next_piece first (passed c) _ two m refl q

    module _ (k : ℕ) (three : List ℕ) (r : Puts (ranges c) (take (length filled2 - (n + m)) (drop (n + m) filled2)) k three) where
      abbrev filled3 : List ℕ
      filled3 = lent_from filled2 (n + m) three

      third : Filling old (totals_text c) filled3 (n + m + k) (ascii " ranges\n")
      third = next_piece second (ranges c) _ three k refl r

      fourth : (i : ℕ) (four : List ℕ) → Puts (ascii " ranges\n") (take (length filled3 - (n + m + k)) (drop (n + m + k) filled3)) i four
          → Filling old (totals_text c) (lent_from filled3 (n + m + k) four) (n + m + k + i) []
      fourth i four t = next_piece third (ascii " ranges\n") [] four i refl t

pub put_counted-kept-requires : goal.put_counted-kept-requires
put_counted-kept-requires c = first_room (totals_text c.args.c) c.args.buffer.now (kept c.args.c) _ c.requires (are_totals c.args.c)

pub slice_bounds-put_counted-count : goal.slice_bounds-put_counted-count
slice_bounds-put_counted-count c =
    let e = c.put_counted-kept.ensures in
    filling_within (first c.args.c c.args.buffer.now c.requires _ _ (e.size, e.buffer))

pub slice_bounds-put_counted-start : goal.slice_bounds-put_counted-start
slice_bounds-put_counted-start c =
    let e = c.put_counted-kept.ensures in
    filling_within (first c.args.c c.args.buffer.now c.requires _ _ (e.size, e.buffer))

pub put_counted-requires : goal.put_counted-requires
put_counted-requires c =
    let e = c.put_counted-kept.ensures in
    filling_room (first c.args.c c.args.buffer.now c.requires _ _ (e.size, e.buffer)) (passed c.args.c) _ refl

pub overflow_add-passed : goal.overflow_add-passed
overflow_add-passed c =
    let e = c.put_counted-kept.ensures in
    let f = c.put_counted.ensures in
    let w = second c.args.c c.args.buffer.now c.requires _ _ (e.size, e.buffer) _ _ (f.size, f.buffer) in
    omega (arith, pieces_most w, totals_most_lem c.args.c)

pub slice_bounds-put_counted-count-2 : goal.slice_bounds-put_counted-count-2
slice_bounds-put_counted-count-2 c =
    let e = c.put_counted-kept.ensures in
    let f = c.put_counted.ensures in
    filling_within (second c.args.c c.args.buffer.now c.requires _ _ (e.size, e.buffer) _ _ (f.size, f.buffer))

pub slice_bounds-put_counted-start-2 : goal.slice_bounds-put_counted-start-2
slice_bounds-put_counted-start-2 c =
    let e = c.put_counted-kept.ensures in
    let f = c.put_counted.ensures in
    filling_within (second c.args.c c.args.buffer.now c.requires _ _ (e.size, e.buffer) _ _ (f.size, f.buffer))

pub put_counted-requires-2 : goal.put_counted-requires-2
put_counted-requires-2 c =
    let e = c.put_counted-kept.ensures in
    let f = c.put_counted.ensures in
    filling_room (second c.args.c c.args.buffer.now c.requires _ _ (e.size, e.buffer) _ _ (f.size, f.buffer)) (ranges c.args.c) _ refl

pub overflow_add-ranges : goal.overflow_add-ranges
overflow_add-ranges c =
    let e = c.put_counted-kept.ensures in
    let f = c.put_counted.ensures in
    let g = c.put_counted-2.ensures in
    let w = third c.args.c c.args.buffer.now c.requires _ _ (e.size, e.buffer) _ _ (f.size, f.buffer) _ _ (g.size, g.buffer) in
    omega (arith, pieces_most w, totals_most_lem c.args.c)

pub slice_bounds-copy-count : goal.slice_bounds-copy-count
slice_bounds-copy-count c =
    let e = c.put_counted-kept.ensures in
    let f = c.put_counted.ensures in
    let g = c.put_counted-2.ensures in
    filling_within (third c.args.c c.args.buffer.now c.requires _ _ (e.size, e.buffer) _ _ (f.size, f.buffer) _ _ (g.size, g.buffer))

pub slice_bounds-copy-start : goal.slice_bounds-copy-start
slice_bounds-copy-start c =
    let e = c.put_counted-kept.ensures in
    let f = c.put_counted.ensures in
    let g = c.put_counted-2.ensures in
    filling_within (third c.args.c c.args.buffer.now c.requires _ _ (e.size, e.buffer) _ _ (f.size, f.buffer) _ _ (g.size, g.buffer))

pub copy-requires : goal.copy-requires
copy-requires c =
    let e = c.put_counted-kept.ensures in
    let f = c.put_counted.ensures in
    let g = c.put_counted-2.ensures in
    let w = third c.args.c c.args.buffer.now c.requires _ _ (e.size, e.buffer) _ _ (f.size, f.buffer) _ _ (g.size, g.buffer) in
    filling_room w (ascii " ranges\n") [] refl

pub overflow_add-result : goal.overflow_add-result
overflow_add-result c =
    let e = c.put_counted-kept.ensures in
    let f = c.put_counted.ensures in
    let g = c.put_counted-2.ensures in
    let h = c.copy.ensures in
    let w = fourth c.args.c c.args.buffer.now c.requires _ _ (e.size, e.buffer) _ _ (f.size, f.buffer) _ _ (g.size, g.buffer) _ _ (h.size, h.buffer) in
    omega (arith, pieces_most w, totals_most_lem c.args.c)

pub returns-clause-size : goal.returns-clause-size
returns-clause-size c =
    let e = c.put_counted-kept.ensures in
    let f = c.put_counted.ensures in
    let g = c.put_counted-2.ensures in
    let h = c.copy.ensures in
    let w = fourth c.args.c c.args.buffer.now c.requires _ _ (e.size, e.buffer) _ _ (f.size, f.buffer) _ _ (g.size, g.buffer) _ _ (h.size, h.buffer) in
    (all_pieces w).0

pub returns-clause-buffer : goal.returns-clause-buffer
returns-clause-buffer c =
    let e = c.put_counted-kept.ensures in
    let f = c.put_counted.ensures in
    let g = c.put_counted-2.ensures in
    let h = c.copy.ensures in
    let w = fourth c.args.c c.args.buffer.now c.requires _ _ (e.size, e.buffer) _ _ (f.size, f.buffer) _ _ (g.size, g.buffer) _ _ (h.size, h.buffer) in
    (all_pieces w).1
