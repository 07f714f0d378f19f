-- Bytes are of the right form exactly when none of the cases of the form applies; then the cases that are left are those of the rows. Assumes nothing.
use Prim.Native.Nat.{ℕ, ◌≤◌}
use mathlib.Core.Path.{◌≡◌, ap}
use mathlib.Core.Bool.{false, not}
use Rattle.std.specs.Prelude.{Ok, ⊤}
use mathlib.Core.List.{List}
use borrow.Author.Tests.{ltb-false, eqb-true, le-ltb, eq-eqb, not-false}
use lib.ListN.{length}
use Rattle.bigendian.specs.Fields.{field_at}
use Rattle.instants.specs.Refusals.{check, number}
use Rattle.instants.proofs.FirstRefusal.{NoneApplies, none_both, none_answered, passed_none, first_none}
use Rattle.rows.specs.Table.{fewest_rows, most_rows, days_wrong, numbers_wrong, table_cases, AcceptedTable}
use Rattle.row_bytes.specs.Form.{head_length, length_field, version_field, version, form_length, row_count, table_in, form_cases, bytes_cases, AcceptedBytes}
use Rattle.row_bytes.specs.Inner.{Whole, Lent}
use Rattle.row_bytes.proofs.Reading.{table_count}

-- bytes of the right form
pub record Formed (s : List ℕ) : Type 0 where
  pub long : head_length ≤ length s
  pub size : field_at s length_field ≡ length s
  pub fewest : fewest_rows ≤ row_count (length s)
  pub most : row_count (length s) ≤ most_rows
  pub whole : Whole s
  pub version : field_at s version_field ≡ version

none_formed : (s : List ℕ) → NoneApplies (form_cases s) → Formed s
none_formed s h = record {
  long = ltb-false _ _ h.0;
  size = eqb-true _ _ (not-false _ h.1.0);
  fewest = ltb-false _ _ h.1.1.0;
  most = ltb-false _ _ h.1.1.1.0;
  whole = eqb-true _ _ (not-false _ h.1.1.1.1.0);
  version = eqb-true _ _ (not-false _ h.1.1.1.1.1.0);
}

pub formed : (s : List ℕ) (u : ⊤) → check (form_cases s) ≡ Ok u → Formed s
formed s u e = none_formed s (passed_none (form_cases s) u e)

-- accepted bytes
pub accepted_none : (s : List ℕ) → AcceptedBytes s → NoneApplies (bytes_cases s)
accepted_none s e = first_none (bytes_cases s) e

pub accepted_form : (s : List ℕ) → AcceptedBytes s → Formed s
accepted_form s e = none_formed s (none_both (form_cases s) (table_cases (table_in s)) (accepted_none s e)).0

-- bytes are accepted when their form is right and their rows are accepted
pub bytes_accepted : (s : List ℕ) → Formed s → AcceptedTable (table_in s) → AcceptedBytes s
bytes_accepted s f a = none_answered number (bytes_cases s) 0 (
  le-ltb (length s) head_length f.long,
  (
    ap not (eq-eqb (field_at s length_field) (length s) f.size),
    (
      le-ltb (row_count (length s)) fewest_rows f.fewest,
      (
        le-ltb most_rows (row_count (length s)) f.most,
        (
          ap not (eq-eqb (length s) (form_length (row_count (length s))) f.whole),
          (
            ap not (eq-eqb (field_at s version_field) version f.version),
            (a.days, (a.numbers, tt)),
          ),
        ),
      ),
    ),
  ),
)

-- PROMISE. Accepted bytes hold an accepted table.
pub table_held : (s : List ℕ) → AcceptedBytes s → AcceptedTable (table_in s)
table_held s e =
    let h = none_both (form_cases s) (table_cases (table_in s)) (accepted_none s e) in
    let f = none_formed s h.0 in
    record { fewest = rw (table_count s) f.fewest; most = rw (table_count s) f.most; days = h.1.0; numbers = h.1.1.0 }

-- and are lent as those of an accepted table
pub lent : (s : List ℕ) → AcceptedBytes s → Lent s
lent s e = record { whole = (accepted_form s e).whole; accepted = table_held s e }

-- bytes of the right form that neither test of the rows refuses are those of an accepted table
module _ (s : List ℕ) (u : ⊤) (e : check (form_cases s) ≡ Ok u) (d : days_wrong (table_in s) ≡ false) (n : numbers_wrong (table_in s) ≡ false) where
  rows_accepted : AcceptedTable (table_in s)
  rows_accepted =
      let f = formed s u e in
      record { fewest = rw (table_count s) f.fewest; most = rw (table_count s) f.most; days = d; numbers = n }

  pub rows_lent : Lent s
  rows_lent = record { whole = (formed s u e).whole; accepted = rows_accepted }
