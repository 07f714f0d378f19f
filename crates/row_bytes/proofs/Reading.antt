-- The rows in bytes: how many they are, where each stands, and when two are the same. Assumes nothing.
use Prim.Native.Nat.{ℕ, zero, suc, ◌+◌, ◌-◌, ◌*◌, ◌<◌}
use mathlib.Core.Path.{◌≡◌, refl, ap, ◌∙◌}
use mathlib.Core.List.{List}
use native.Mathlib.Nat.{le_of_eq, not-suc-le-zero, le_of_suc-le-suc}
use native.Mathlib.Omega.{arith}
use lib.IntN.{ℤ}
use lib.ListN.{length, take, drop, length-drop}
use lib.Seq.{take_all, drop-drop}
use Rattle.rows.specs.Table.{row, row_at}
use Rattle.row_bytes.specs.Form.{head_length, row_length, row_in, rows_in, row_count, table_in}

-- a row is its four numbers
pub four : {d d' : ℕ} {c c' s s' : ℤ} {u u' : ℕ} → d ≡ d' → c ≡ c' → s ≡ s' → u ≡ u' → row d c s u ≡ row d' c' s' u'
four p q t v = cc

-- a part of s that goes to its end
pub part_all : (a : ℕ) (s : List ℕ) → take (length s - a) (drop a s) ≡ drop a s
part_all a s = take_all (length s - a) (drop a s) (le_of_eq (length-drop a s))

rows_count : (n : ℕ) (s : List ℕ) → length (rows_in n s) ≡ n
unfolding rows_in
rows_count zero s = refl
rows_count (suc n) s = ap suc (rows_count n (drop row_length s))

pub table_count : (s : List ℕ) → length (table_in s) ≡ row_count (length s)
unfolding table_in
table_count s = rows_count (row_count (length s)) (drop head_length s)

-- the row at an index
rows_at : (n : ℕ) (s : List ℕ) (i : ℕ) → i < n → row_at (rows_in n s) i ≡ row_in (drop (row_length * i) s)
unfolding rows_in
rows_at zero s i h = absurd (not-suc-le-zero h)
rows_at (suc n) s zero h = refl
rows_at (suc n) s (suc i) h = rows_at n (drop row_length s) i (le_of_suc-le-suc h) ∙ ap row_in (drop-drop (row_length * i) row_length s ∙ ap (λ (k : ℕ). drop k s) e)
  where
    e : row_length + row_length * i ≡ row_length * suc i
    e = omega arith

pub table_at : (s : List ℕ) (i : ℕ) → i < row_count (length s) → row_at (table_in s) i ≡ row_in (drop (head_length + row_length * i) s)
unfolding table_in
table_at s i h = rows_at (row_count (length s)) (drop head_length s) i h ∙ ap row_in (drop-drop (row_length * i) head_length s)
