-- What is written reads back: a row's bytes have each number in its field, rows stand one behind the other, and the head has the length and the version.
-- So the byte form of an accepted table is accepted. Assumes nothing.
use Prim.Native.Nat.{ℕ, suc, ◌+◌, ◌*◌, ◌<◌, ◌≤◌, suc-le-suc}
use mathlib.Core.Path.{◌≡◌, refl, ap, ap₂, ◌∙◌, sym}
use mathlib.Core.List.{List, [], ◌∷◌, ◌++◌}
use native.Mathlib.Nat as N
use native.Mathlib.Omega.{arith}
use lib.IntN.{ℤ, pos, negsuc, nat_abs}
use lib.ListN.{length, drop, length-append}
use Rattle.bigendian.specs.Fields.{field_at, signed_at}
use Rattle.bigendian.proofs.Signs.{FitsBytes}
use Rattle.bigendian.proofs.Fields.{number_back, signed_back}
use Rattle.rows.specs.declared.Row.{Row}
use Rattle.rows.specs.Table.{row_at, largest, AcceptedTable}
use Rattle.rows.specs.Inner.{AcceptedRow}
use Rattle.rows.specs.BuiltIn.{built_in}
use Rattle.rows.proofs.Accepted.{accepted_row, built_in_accepted}
use Rattle.row_bytes.proofs.Reading.{four}
use Rattle.row_bytes.proofs.Forms.{bytes_accepted, lent}
use Rattle.row_bytes.specs.Inner.{Lent}
use Rattle.row_bytes.specs.Form.{length_field, version_field, version, head_length, day_field, xc_field, xs_field, uncertainty_field, row_length, form_length, row_bytes, all_bytes, table_bytes, at_least0, row_in, rows_in, row_count, table_in, AcceptedBytes}

-- ---- a row

-- an amplitude within the limits fits four bytes
small_fits : (z : ℤ) → nat_abs z ≤ largest → FitsBytes 4 z
small_fits (pos n) h = omega arith
small_fits (negsuc n) h = omega arith

module _ (r : Row) (a : AcceptedRow r) (rest : List ℕ) where
  abbrev S : List ℕ
  S = row_bytes r ++ rest

  day_back : field_at S day_field ≡ r.day
  unfolding row_bytes
  day_back = number_back S day_field r.day (record { starts = refl; is = refl }) (omega (arith, a.to))

  xc_back : signed_at S xc_field ≡ r.xc
  unfolding row_bytes
  xc_back = signed_back S xc_field r.xc (record { starts = refl; is = refl }) (small_fits r.xc a.xc_small)

  xs_back : signed_at S xs_field ≡ r.xs
  unfolding row_bytes
  xs_back = signed_back S xs_field r.xs (record { starts = refl; is = refl }) (small_fits r.xs a.xs_small)

  uncertainty_back : signed_at S uncertainty_field ≡ pos r.uncertainty
  unfolding row_bytes
  uncertainty_back = signed_back S uncertainty_field (pos r.uncertainty) (record { starts = refl; is = refl }) (small_fits (pos r.uncertainty) a.uncertainty_small)

  row_back : row_in S ≡ r
  unfolding row_in
  row_back = four day_back xc_back xs_back (ap at_least0 uncertainty_back)

  row_gone : drop row_length S ≡ rest
  unfolding row_bytes
  row_gone = refl

-- ---- rows

row_size : (r : Row) → length (row_bytes r) ≡ row_length
unfolding row_bytes
row_size r = refl

all_size : (rows : List Row) → length (all_bytes rows) ≡ row_length * length rows
unfolding all_bytes
all_size [] = refl
all_size (r ∷ rs) = length-append (row_bytes r) (all_bytes rs) ∙ (ap₂ ◌+◌ (row_size r) (all_size rs) ∙ omega arith)

all_back : (rows : List Row) → ((i : ℕ) → i < length rows → AcceptedRow (row_at rows i)) → rows_in (length rows) (all_bytes rows) ≡ rows
unfolding rows_in all_bytes
all_back [] a = refl
all_back (r ∷ rs) a =
    let b : AcceptedRow r = a 0 (N.zero-lt-suc (length rs)) in
    ap₂ (λ (x : Row) (l : List Row). x ∷ l) (row_back r b (all_bytes rs))
    (ap (rows_in (length rs)) (row_gone r b (all_bytes rs)) ∙ all_back rs (λ i h. a (suc i) (suc-le-suc h)))

-- ---- a table

module _ (rows : List Row) where
  table_size : length (table_bytes rows) ≡ form_length (length rows)
  unfolding table_bytes
  table_size = omega (arith, all_size rows)

  count_back : row_count (length (table_bytes rows)) ≡ length rows
  count_back = ap row_count table_size ∙ go (length rows)
    where
      go : (n : ℕ) → row_count (form_length n) ≡ n
      go n = omega arith

  head_gone : drop head_length (table_bytes rows) ≡ all_bytes rows
  unfolding table_bytes
  head_gone = refl

  -- PROMISE. The byte form of an accepted table reads back as its rows.
  pub table_back : AcceptedTable rows → table_in (table_bytes rows) ≡ rows
  unfolding table_in
  table_back a = ap₂ rows_in count_back head_gone ∙ all_back rows (accepted_row rows a)

  length_back : AcceptedTable rows → field_at (table_bytes rows) length_field ≡ form_length (length rows)
  unfolding table_bytes
  length_back a = number_back (table_bytes rows) length_field (form_length (length rows)) (record { starts = refl; is = refl }) (omega (arith, a.most))

  version_back : field_at (table_bytes rows) version_field ≡ version
  unfolding table_bytes
  version_back = refl

  -- PROMISE. And it is accepted.
  pub table_accepted : AcceptedTable rows → AcceptedBytes (table_bytes rows)
  table_accepted a =
      bytes_accepted (table_bytes rows)
      (record {
        long = omega (arith, table_size);
        size = length_back a ∙ sym table_size;
        fewest = rw count_back a.fewest;
        most = rw count_back a.most;
        whole = table_size ∙ ap form_length (sym count_back);
        version = version_back;
      }) (rw (table_back a) a)

-- the built-in rows, written as bytes
pub built_in_lent : Lent (table_bytes built_in)
built_in_lent = lent (table_bytes built_in) (table_accepted built_in built_in_accepted)

pub built_in_back : table_in (table_bytes built_in) ≡ built_in
built_in_back = table_back built_in built_in_accepted
