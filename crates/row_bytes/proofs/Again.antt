-- Accepted bytes are the byte form of their rows: each number gives its field's bytes back, an uncertainty too, since an accepted one is not below 0.
-- Assumes nothing.
use Prim.Native.Nat.{ℕ, zero, suc, ◌+◌, ◌*◌, ◌<◌, ◌≤◌, suc-le-suc}
use mathlib.Core.Path.{◌≡◌, refl, ap, ap₂, ◌∙◌, sym}
use mathlib.Core.List.{List, [], ◌∷◌, ◌++◌}
use native.Mathlib.Nat as N
use native.Mathlib.Omega.{arith}
use lib.IntN.{ℤ, pos, negsuc}
use lib.ListN.{length, take, drop, length-drop, take-append-drop}
use lib.Seq.{get_or-drop}
use Rattle.bigendian.specs.Numbers.{Bytes}
use Rattle.bigendian.specs.Fields.{signed_at}
use Rattle.bigendian.proofs.Fields.{field_bytes_lem, signed_field, field_on}
use Rattle.rows.specs.Table.{row_at}
use Rattle.rows.proofs.Accepted.{accepted_row}
use Rattle.row_bytes.specs.Form.{length_field, version_field, head_length, day_field, xc_field, xs_field, uncertainty_field, row_length, form_length, row_bytes, all_bytes, table_bytes, at_least0, row_in, rows_in, row_count, table_in, AcceptedBytes}
use Rattle.row_bytes.proofs.Reading.{table_count}
use Rattle.row_bytes.proofs.Forms.{accepted_form, table_held}

-- what is behind the first n bytes is bytes
behind : (n : ℕ) {s : List ℕ} → Bytes s → Bytes (drop n s)
behind n {s} b = record { byte = λ i. rw (get_or-drop n s i 0) (b.byte (n + i)) }

-- a number that reads above 0 is not below it
above : (z : ℤ) → 0 < at_least0 z → pos (at_least0 z) ≡ z
above (pos n) h = refl
above (negsuc n) h = absurd (N.not-suc-le-zero h)

row_again : (s : List ℕ) → Bytes s → row_length ≤ length s → 0 < (row_in s).uncertainty → row_bytes (row_in s) ≡ take row_length s
unfolding row_bytes row_in
row_again s b h u =
    field_on s uncertainty_field (field_on s xs_field (field_on s xc_field
    (field_bytes_lem s day_field b (omega arith) refl)
    (signed_field s xc_field b (omega arith) refl))
    (signed_field s xs_field b (omega arith) refl))
    (signed_field s uncertainty_field b (omega arith) (above (signed_at s uncertainty_field) u))

all_again : (n : ℕ) (s : List ℕ) → Bytes s → length s ≡ row_length * n → ((i : ℕ) → i < n → 0 < (row_at (rows_in n s) i).uncertainty) → all_bytes (rows_in n s) ≡ s
unfolding all_bytes rows_in
all_again zero [] b e u = refl
all_again zero (x ∷ s) b e u = let v : ⊥ = omega (arith, e) in absurd v
all_again (suc n) s b e u =
    ap₂ (λ (x y : List ℕ). x ++ y) (row_again s b (omega arith) (u 0 (N.zero-lt-suc n)))
    (all_again n (drop row_length s) (behind row_length b) (length-drop row_length s ∙ omega arith) (λ i h. u (suc i) (suc-le-suc h)))
    ∙ take-append-drop row_length s

-- PROMISE. The rows of accepted bytes have these bytes as their byte form.
pub table_again : (s : List ℕ) → Bytes s → AcceptedBytes s → table_bytes (table_in s) ≡ s
unfolding table_bytes table_in
table_again s b e =
    let f = accepted_form s e in
    let a = table_held s e in
    let k : ℕ = row_count (length s) in
    ap₂ (λ (x y : List ℕ). x ++ y)
    (field_on s version_field
    (field_bytes_lem s length_field b (omega (arith, f.long)) (ap form_length (table_count s) ∙ (sym f.whole ∙ sym f.size)))
    (field_bytes_lem s version_field b (omega (arith, f.long)) (sym f.version)))
    (all_again k (drop head_length s) (behind head_length b) (length-drop head_length s ∙ omega (arith, f.whole))
    (λ i h. (accepted_row (table_in s) a i (rw (table_count s) h)).uncertainty_positive))
    ∙ take-append-drop head_length s
