-- The rules of a table: what its two tests say of each row, and the built-in rows. A test over all rows that finds nothing finds nothing at each.
-- Assumes nothing.
use mathlib.Core.Path.{◌≡◌, refl, sym, ◌∙◌, ap, ap₂}
use mathlib.Core.Bool.{Bool, true, false, ◌||◌}
use mathlib.Core.Logic.{⊎_elim}
use mathlib.Core.List.{List}
use Prim.Native.Nat.{ℕ, zero, suc, ◌≤◌, ◌<◌}
use native.Mathlib.Nat as N
use lib.Dec.{ltb, lit≤}
use lib.ListN.{length}
use lib.IntN.{nat_abs}
use borrow.Author.Tests.{ltb-false, leb-false, le-ltb, lt-leb}
use Rattle.instants.proofs.Accepted.{both_false}
use Rattle.rows.specs.declared.Row.{Row}
use Rattle.rows.specs.Table.{row_at, fewest_rows, most_rows, first_row_day, last_row_day, largest, day_out, not_after, number_out, some_below, days_wrong, numbers_wrong, AcceptedTable}
use Rattle.rows.specs.BuiltIn.{built_in}
use Rattle.rows.specs.Inner.{AcceptedRow}

-- ---- a test over all rows

-- that finds nothing
none_at : (f : ℕ → Bool) (n : ℕ) → some_below n f ≡ false → (i : ℕ) → i < n → f i ≡ false
none_at f zero e i h = absurd (N.not-suc-le-zero h)
none_at f (suc n) e i h =
    let o = both_false (f n) (some_below n f) e in
    ⊎_elim (λ (p : i ≡ n). ap f p ∙ o.0) (λ p. none_at f n o.1 i p) (N.eq-or-lt_of_le (N.le_of_suc-le-suc h))

-- so far, with one index more
pub none_more : (f : ℕ → Bool) (n : ℕ) → some_below n f ≡ false → f n ≡ false → some_below (suc n) f ≡ false
none_more f n e g = rw g e

pub none_found : (f : ℕ → Bool) (n : ℕ) → ((i : ℕ) → i < n → f i ≡ false) → some_below n f ≡ false
none_found f zero h = refl
none_found f (suc n) h = none_more f n (none_found f n (λ i k. h i (N.le_trans k (N.le-suc n)))) (h n (N.le_refl (suc n)))

-- and one that finds something
pub some_at : (f : ℕ → Bool) (n i : ℕ) → i < n → f i ≡ true → some_below n f ≡ true
some_at f zero i h e = absurd (N.not-suc-le-zero h)
some_at f (suc n) i h e =
    ⊎_elim (λ (p : i ≡ n). first (f n) (sym (ap f p) ∙ e)) (λ p. second (f n) (some_at f n i p e)) (N.eq-or-lt_of_le (N.le_of_suc-le-suc h))
  where
    first : (b : Bool) → b ≡ true → (b || some_below n f) ≡ true
    first b e = rw e refl

    second : (b : Bool) → some_below n f ≡ true → (b || some_below n f) ≡ true
    second true e = refl
    second false e = e

-- two tests that agree at each
pub some_same : (f g : ℕ → Bool) (n : ℕ) → ((i : ℕ) → i < n → f i ≡ g i) → some_below n f ≡ some_below n g
some_same f g zero h = refl
some_same f g (suc n) h = ap₂ (λ (x y : Bool). x || y) (h n (N.le_refl (suc n))) (some_same f g n (λ i k. h i (N.le_trans k (N.le-suc n))))

-- ---- what the tests say of an accepted table

module _ (rows : List Row) (a : AcceptedTable rows) where
  pub accepted_row : (i : ℕ) → i < length rows → AcceptedRow (row_at rows i)
  unfolding days_wrong numbers_wrong
  accepted_row i h =
      let r : Row = row_at rows i in
      let d = both_false (ltb r.day first_row_day) (ltb last_row_day r.day) (both_false (day_out r) (not_after rows i) (none_at _ (length rows) a.days i h)).0 in
      let n = none_at (λ i. number_out (row_at rows i)) (length rows) a.numbers i h in
      let c = both_false (ltb largest (nat_abs r.xc)) _ n in
      let s = both_false (ltb largest (nat_abs r.xs)) _ c.1 in
      let u = both_false (ltb r.uncertainty 1) (ltb largest r.uncertainty) s.1 in
      record {
        from = ltb-false r.day first_row_day d.0;
        to = ltb-false last_row_day r.day d.1;
        xc_small = ltb-false largest (nat_abs r.xc) c.0;
        xs_small = ltb-false largest (nat_abs r.xs) s.0;
        uncertainty_positive = ltb-false r.uncertainty 1 u.0;
        uncertainty_small = ltb-false largest r.uncertainty u.1;
      }

  pub rising : (i : ℕ) → suc i < length rows → (row_at rows i).day < (row_at rows (suc i)).day
  unfolding days_wrong
  rising i h = leb-false (row_at rows (suc i)).day (row_at rows i).day (both_false (day_out (row_at rows (suc i))) (not_after rows (suc i)) (none_at _ (length rows) a.days (suc i) h)).1

-- and rows within their limits whose days rise are accepted
pub accepted_rows : (rows : List Row) → fewest_rows ≤ length rows → length rows ≤ most_rows → ((i : ℕ) → i < length rows → AcceptedRow (row_at rows i))
    → ((i : ℕ) → suc i < length rows → (row_at rows i).day < (row_at rows (suc i)).day) → AcceptedTable rows
unfolding days_wrong numbers_wrong
accepted_rows rows h k a u = record {
  fewest = h;
  most = k;
  days = none_found _ (length rows) (λ i l. day i l);
  numbers = none_found _ (length rows) (λ i l.
      let r = a i l in
      rw (le-ltb _ _ r.xc_small, le-ltb _ _ r.xs_small, le-ltb (row_at rows i).uncertainty 1 r.uncertainty_positive, le-ltb _ _ r.uncertainty_small) refl);
}
  where
    day : (i : ℕ) → i < length rows → (day_out (row_at rows i) || not_after rows i) ≡ false
    day zero l = rw (le-ltb _ _ (a zero l).from, le-ltb _ _ (a zero l).to) refl
    day (suc i) l = rw (le-ltb _ _ (a (suc i) l).from, le-ltb _ _ (a (suc i) l).to) (lt-leb _ _ (u i l))

-- the built-in rows keep the rules
pub built_in_accepted : AcceptedTable built_in
unfolding built_in days_wrong numbers_wrong
built_in_accepted = record { fewest = lit≤ tt; most = lit≤ tt; days = refl; numbers = refl }
