-- Two words, each with a numeral behind it, and a newline are put one behind another.
use Rattle.std.proofs.Common.{◌≡◌, ℕ, ◌+◌, ◌-◌, ◌≤◌, List, [], ◌++◌, length, take, drop, refl, append_assoc, arith}
use Rattle.bigendian.proofs.Filling.{Filling, filling_within, filling_room}
use Rattle.rescue.specs.declared.Range.{Range}
use Rattle.text.specs.Text.{ascii, numeral}
use Rattle.text.proofs.Pieces.{Puts, lent_from}
use Rattle.rescue_lines.specs.Lines.{line_text}
use Rattle.rescue_lines.proofs.Lines.{line_any}
use Rattle.rescue_lines.proofs.Pieces.{first_room, first_piece, next_piece, pieces_most, all_pieces}
use Rattle.rescue_lines.proofs.put_line.Goals as goal

-- the pieces of a line
abbrev passed : Range → List ℕ
passed r = ascii "passed " ++ numeral r.size

abbrev at : Range → List ℕ
at r = ascii " bytes at " ++ numeral r.start

is_line : (r : Range) → line_text r ≡ passed r ++ (at r ++ ascii "\n")
unfolding line_text
is_line r = simp append_assoc

-- what is put after each call
module _ (r : Range) (old : List ℕ) (h : length (line_text r) ≤ length old) where
  module _ (n : ℕ) (one : List ℕ) (p : Puts (passed r) old n one) where
    first : Filling old (line_text r) one n (at r ++ ascii "\n")
    first = first_piece (line_text r) old (passed r) _ h (is_line r) n one p

    module _ (m : ℕ) (two : List ℕ) (q : Puts (at r) (take (length one - n) (drop n one)) m two) where
      abbrev filled : List ℕ
      filled = lent_from one n two

      second : Filling old (line_text r) filled (n + m) (ascii "\n")
      second = next_piece first (at r) (ascii "\n") two m refl q

      third : (k : ℕ) (three : List ℕ) → Puts (ascii "\n") (take (length filled - (n + m)) (drop (n + m) filled)) k three
          → Filling old (line_text r) (lent_from filled (n + m) three) (n + m + k) []
      third k three t = next_piece second (ascii "\n") [] three k refl t

pub put_counted-passed-requires : goal.put_counted-passed-requires
put_counted-passed-requires c =
    first_room (line_text c.args.range) c.args.buffer.now (passed c.args.range) _ c.requires (is_line c.args.range)

pub slice_bounds-put_counted-count : goal.slice_bounds-put_counted-count
slice_bounds-put_counted-count c =
    let e = c.put_counted-passed.ensures in
    filling_within (first c.args.range c.args.buffer.now c.requires _ _ (e.size, e.buffer))

pub slice_bounds-put_counted-start : goal.slice_bounds-put_counted-start
slice_bounds-put_counted-start c =
    let e = c.put_counted-passed.ensures in
    filling_within (first c.args.range c.args.buffer.now c.requires _ _ (e.size, e.buffer))

pub put_counted-requires : goal.put_counted-requires
put_counted-requires c =
    let e = c.put_counted-passed.ensures in
    filling_room (first c.args.range c.args.buffer.now c.requires _ _ (e.size, e.buffer)) (at c.args.range) (ascii "\n") refl

pub overflow_add-at : goal.overflow_add-at
overflow_add-at c =
    let e = c.put_counted-passed.ensures in
    let f = c.put_counted.ensures in
    let w = second c.args.range c.args.buffer.now c.requires _ _ (e.size, e.buffer) _ _ (f.size, f.buffer) in
    omega (arith, pieces_most w, line_any c.args.range)

pub slice_bounds-copy-count : goal.slice_bounds-copy-count
slice_bounds-copy-count c =
    let e = c.put_counted-passed.ensures in
    let f = c.put_counted.ensures in
    filling_within (second c.args.range c.args.buffer.now c.requires _ _ (e.size, e.buffer) _ _ (f.size, f.buffer))

pub slice_bounds-copy-start : goal.slice_bounds-copy-start
slice_bounds-copy-start c =
    let e = c.put_counted-passed.ensures in
    let f = c.put_counted.ensures in
    filling_within (second c.args.range c.args.buffer.now c.requires _ _ (e.size, e.buffer) _ _ (f.size, f.buffer))

pub copy-requires : goal.copy-requires
copy-requires c =
    let e = c.put_counted-passed.ensures in
    let f = c.put_counted.ensures in
    let w = second c.args.range c.args.buffer.now c.requires _ _ (e.size, e.buffer) _ _ (f.size, f.buffer) in
    filling_room w (ascii "\n") [] refl

pub overflow_add-result : goal.overflow_add-result
overflow_add-result c =
    let e = c.put_counted-passed.ensures in
    let f = c.put_counted.ensures in
    let g = c.copy.ensures in
    let w = third c.args.range c.args.buffer.now c.requires _ _ (e.size, e.buffer) _ _ (f.size, f.buffer) _ _ (g.size, g.buffer) in
    omega (arith, pieces_most w, line_any c.args.range)

pub returns-clause-size : goal.returns-clause-size
returns-clause-size c =
    let e = c.put_counted-passed.ensures in
    let f = c.put_counted.ensures in
    let g = c.copy.ensures in
    (all_pieces (third c.args.range c.args.buffer.now c.requires _ _ (e.size, e.buffer) _ _ (f.size, f.buffer) _ _ (g.size, g.buffer))).0

pub returns-clause-buffer : goal.returns-clause-buffer
returns-clause-buffer c =
    let e = c.put_counted-passed.ensures in
    let f = c.put_counted.ensures in
    let g = c.copy.ensures in
    (all_pieces (third c.args.range c.args.buffer.now c.requires _ _ (e.size, e.buffer) _ _ (f.size, f.buffer) _ _ (g.size, g.buffer))).1
