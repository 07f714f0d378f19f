-- Lines and totals: how long they are, since a number has few digits; and the lines of a list's entries, one entry more at a time. Assumes nothing.
use Prim.Native.Nat.{ℕ, zero, suc, ◌+◌, ◌-◌, ◌*◌, ◌/◌, ◌^◌, ◌≤◌, ◌<◌}
use mathlib.Core.Path.{◌≡◌, refl, ap, ap₂, sym, ◌∙◌}
use mathlib.Core.List.{List, ◌∷◌, ◌++◌, append-nil, append_assoc}
use native.Mathlib.Omega.{arith}
use lib.ListN.{length, take, drop, length-append, length-drop}
use Rattle.std.proofs.lemmas.List.{drop-take}
use lib.Seq.{length-take-le, take_at, drop_at, drop-drop}
use Rattle.bigendian.specs.Numbers.{number_at}
use Rattle.bigendian.proofs.Numbers.{number_take, number_drop}
use Rattle.rescue.specs.declared.Counts.{Counts}
use Rattle.rescue.specs.Walk.{range}
use Rattle.rescue.specs.declared.Range.{Range}
use Rattle.rescue.specs.Rescue.{entry_length}
use Rattle.rescue.specs.Claims.{listed}
use Rattle.text.specs.Text.{numeral}
use Rattle.text.proofs.Numerals.{numeral_length, numeral_most}
use Rattle.rescue_lines.specs.Lines.{line_text, lines_text, totals_text}
use Rattle.rescue_lines.specs.Inner.{line_most, totals_most}

-- ---- lengths

line_length : (r : Range) → length (line_text r) ≡ length (numeral r.size) + length (numeral r.start) + 18
unfolding line_text
line_length r = simp length-append (omega arith)

-- a number of four bytes has ten digits at most
pub line_most_lem : (r : Range) → r.start < 256 ^ 4 → r.size < 256 ^ 4 → length (line_text r) ≤ line_most
line_most_lem r h l = omega (arith, line_length r, numeral_length r.start 9 (omega arith), numeral_length r.size 9 (omega arith))

-- and any number twenty
pub line_any : (r : Range) → length (line_text r) ≤ 58
line_any r = omega (arith, line_length r, numeral_most r.start, numeral_most r.size)

totals_length : (c : Counts) → length (totals_text c) ≡ length (numeral c.kept) + length (numeral c.passed) + length (numeral c.ranges) + 40
unfolding totals_text
totals_length c = simp length-append (omega arith)

pub totals_most_lem : (c : Counts) → length (totals_text c) ≤ totals_most
totals_most_lem c = omega (arith, totals_length c, numeral_most c.kept, numeral_most c.passed, numeral_most c.ranges)

-- ---- the lines of a list

-- entry k of a list, counted from 0
abbrev pub entry_at : List ℕ → ℕ → Range
entry_at l k = range (number_at l (entry_length * k) 4) (number_at l (entry_length * k + 4) 4)

entry_on : (l : List ℕ) (k : ℕ) → entry_at (drop entry_length l) k ≡ entry_at l (suc k)
entry_on l k =
    let e : 8 + 8 * k ≡ 8 * suc k = omega arith in
    let f : 8 + (8 * k + 4) ≡ 8 * suc k + 4 = omega arith in
    ap₂ range (number_drop 8 l (8 * k) 4 ∙ ap (λ (i : ℕ). number_at l i 4) e) (number_drop 8 l (8 * k + 4) 4 ∙ ap (λ (i : ℕ). number_at l i 4) f)

-- the bytes of a list behind k entries, in two parts of which the first has an entry's length
module _ (l x rest : List ℕ) (k : ℕ) (e : drop (entry_length * k) l ≡ x ++ rest) (h : length x ≡ entry_length) where
  first : x ≡ take entry_length (drop (entry_length * k) l)
  first = sym (take_at x rest entry_length h) ∙ ap (take entry_length) (sym e)

  number_there : (i : ℕ) → i + 4 ≤ entry_length → number_at x i 4 ≡ number_at l (entry_length * k + i) 4
  number_there i j =
      ap (λ (b : List ℕ). number_at b i 4) first
      ∙ (number_take (drop (entry_length * k) l) entry_length i 4 j ∙ number_drop (entry_length * k) l i 4)

  -- the first is entry k
  pub entry_there : range (number_at x 0 4) (number_at x 4 4) ≡ entry_at l k
  entry_there =
      let z : entry_length * k + 0 ≡ entry_length * k = omega arith in
      ap₂ range (number_there 0 (omega arith) ∙ ap (λ (i : ℕ). number_at l i 4) z) (number_there 4 (omega arith))

  -- the other is what is behind it
  pub entry_behind : rest ≡ drop (entry_length * (k + 1)) l
  entry_behind =
      let z : entry_length * k + entry_length ≡ entry_length * (k + 1) = omega arith in
      sym (drop_at x rest entry_length h) ∙ (ap (drop entry_length) (sym e) ∙ (drop-drop entry_length (entry_length * k) l ∙ ap (λ (i : ℕ). drop i l) z))

  pub chunk_within : entry_length * (k + 1) ≤ length l
  chunk_within = omega (arith, ap length e, length-drop (entry_length * k) l, length-append x rest)

-- where less than an entry is left there were as many as the list has
pub all_entries : (l : List ℕ) (k : ℕ) → entry_length * k ≤ length l → length (drop (entry_length * k) l) < entry_length → k ≡ length l / entry_length
all_entries l k h r = omega (arith, length-drop (entry_length * k) l)

-- the first n entries of a list that is cut behind them
listed_take : (n m : ℕ) (l : List ℕ) → entry_length * n ≤ m → listed n (take m l) ≡ listed n l
listed_take zero m l h = refl
listed_take (suc n) m l h =
    let e : m ≡ entry_length + (m - entry_length) = omega arith in
    ap₂ (λ (r : Range) (rs : List Range). r ∷ rs) (ap₂ range (number_take l m 0 4 (omega arith)) (number_take l m 4 4 (omega arith)))
    (ap (λ (i : ℕ). listed n (drop entry_length (take i l))) e
    ∙ (ap (listed n) (drop-take entry_length (m - entry_length) l) ∙ listed_take n (m - entry_length) (drop entry_length l) (omega arith)))

-- the lines of such a part of a list
module _ (n : ℕ) (l : List ℕ) (h : entry_length * n ≤ length l) where
  pub front_count : length (take (entry_length * n) l) / entry_length ≡ n
  front_count = rw (length-take-le (entry_length * n) l h) (omega arith)

  pub front_lines : lines_text (listed (length (take (entry_length * n) l) / entry_length) (take (entry_length * n) l)) ≡ lines_text (listed n l)
  front_lines = rw front_count (ap lines_text (listed_take n (entry_length * n) l (omega arith)))

-- one more
pub lines_more : (k : ℕ) (l : List ℕ) → lines_text (listed (suc k) l) ≡ lines_text (listed k l) ++ line_text (entry_at l k)
lines_more zero l = append-nil (line_text (entry_at l 0))
lines_more (suc k) l =
    let r = range (number_at l 0 4) (number_at l 4 4) in
    ap (λ (t : List ℕ). line_text r ++ t) (lines_more k (drop entry_length l) ∙ ap (λ (q : Range). lines_text (listed k (drop entry_length l)) ++ line_text q) (entry_on l k))
    ∙ sym (append_assoc (line_text r) (lines_text (listed k (drop entry_length l))) (line_text (entry_at l (suc k))))
