-- Where a moment x is among the rows. `started` counts the rows dated at or before x: the last of them is at or before x and the next after it, so that
-- the place is an end's row or two neighbours around x. Since the dates rise, only one pair of neighbours is around x, so that a pair that a lookup
-- finds is that of the definition.
-- Assumes nothing.
use mathlib.Core.Path.{◌≡◌, sym, ap, subst}
use mathlib.Core.Logic.{⊎_elim}
use mathlib.Core.Bool.{Bool, true, false, not, cond}
use mathlib.Core.List.{List, [], ◌∷◌}
use Prim.Native.Nat.{ℕ, zero, suc, ◌+◌, ◌*◌, ◌-◌, ◌≤◌, ◌<◌, zero-le, suc-le-suc}
use native.Mathlib.Nat as N
use native.Mathlib.Omega.{arith}
use lib.Dec.{T, leb, ltb, leb→le, ltb→lt, nleb→lt, nltb→le, not_T}
use lib.IntN.{pos, ◌-ℤ◌}
use lib.ListN.{length}
use borrow.Author.Tests.{le-leb, lt-leb}
use Rattle.algebra.proofs.Tests.{cond_case}
use Rattle.rows.specs.declared.Row.{Row}
use Rattle.rows.specs.declared.Place.{Place}
use Rattle.rows.specs.declared.Place.TheVariants.{End, Between}
use Rattle.rows.specs.Table.{row_at, AcceptedTable}
use Rattle.rows.specs.Places.{row_moment, started, place}
use Rattle.algebra.proofs.Ring.{end, ◌▹◌, ring, quote}
use Rattle.instants.specs.Limits.{day_micros, index_offset}
use Rattle.instants.specs.Moments.{since_j2000, since}
use Rattle.instants.proofs.Moments.{moment_is}
use Rattle.rows.specs.Inner.{Inside, Placed}
use Rattle.rows.proofs.Accepted.{accepted_row, rising}

-- ---- a row's date

-- PROMISE. A row is dated at 0 h of its day: its moment stands for n there.
pub row_date : (r : Row) → since (row_moment r) ≡ since_j2000 (pos r.day) 0
row_date r = sym (moment_is (pos r.day) (r.day + index_offset) 0 (go r.day))
  where
    go : (d : ℕ) → pos d ≡ pos (d + index_offset) -ℤ pos index_offset
    go d = ring (d ▹ end) (search quote depth 13) tt

-- ---- how many rows are dated at or before x

-- the last of them
started_is : (x : ℕ) (rows : List Row) → 0 < started rows x → row_moment (row_at rows (started rows x - 1)) ≤ x
unfolding started
started_is x [] h = absurd (N.not-suc-le-zero h)
started_is x (r ∷ rs) h = go (started_is x rs) (leb (row_moment r) x) (leb→le (row_moment r) x) h
  where
    s : ℕ
    s = started rs x

    less : (n : ℕ) → suc n - 1 ≡ n
    less n = omega arith

    more : (n : ℕ) → (0 < n → row_moment (row_at rs (n - 1)) ≤ x) → row_moment r ≤ x → row_moment (row_at (r ∷ rs) n) ≤ x
    more zero k g = g
    more (suc n) k g = subst (λ (m : ℕ). row_moment (row_at rs m) ≤ x) (less n) (k (N.zero-lt-suc n))

    go : (0 < s → row_moment (row_at rs (s - 1)) ≤ x) → (b : Bool) → (T b → row_moment r ≤ x) → 0 < cond b (suc s) 0 → row_moment (row_at (r ∷ rs) (cond b (suc s) 0 - 1)) ≤ x
    go f true k g = subst (λ (m : ℕ). row_moment (row_at (r ∷ rs) m) ≤ x) (sym (less s)) (more s f (k tt))
    go f false k g = absurd (N.not-suc-le-zero g)

-- the next
next_is : (x : ℕ) (rows : List Row) → started rows x < length rows → x < row_moment (row_at rows (started rows x))
unfolding started
next_is x [] h = absurd (N.not-suc-le-zero h)
next_is x (r ∷ rs) h = go (next_is x rs) (leb (row_moment r) x) (nleb→lt (row_moment r) x) h
  where
    s : ℕ
    s = started rs x

    go : (s < length rs → x < row_moment (row_at rs s)) → (b : Bool) → (T (not b) → x < row_moment r) → cond b (suc s) 0 < suc (length rs) → x < row_moment (row_at (r ∷ rs) (cond b (suc s) 0))
    go f true k g = f (N.le_of_suc-le-suc g)
    go f false k g = k tt

started_le : (x : ℕ) (rows : List Row) → started rows x ≤ length rows
unfolding started
started_le x [] = N.le_refl 0
started_le x (r ∷ rs) = cond_case (leb (row_moment r) x) (λ (n : ℕ). n ≤ suc (length rs)) (λ t. suc-le-suc (started_le x rs)) (λ t. zero-le)

started_positive : (x : ℕ) (rows : List Row) → 0 < length rows → row_moment (row_at rows 0) ≤ x → 0 < started rows x
unfolding started
started_positive x [] h k = absurd (N.not-suc-le-zero h)
started_positive x (r ∷ rs) h k = cond_case (leb (row_moment r) x) (λ (n : ℕ). 0 < n) (λ t. N.zero-lt-suc (started rs x)) (λ t. absurd (clash (nleb→lt (row_moment r) x t) k))
  where
    clash : {y : ℕ} → x < y → y ≤ x → ⊥
    clash h k = omega arith

-- ---- the place by its cases

-- what holds of the rows, and of two neighbours around x, holds of the place of x
place_case : (P : Place → Type 0) (rows : List Row) (x : ℕ) → 0 < length rows → ((i : ℕ) → i < length rows → P (End (row_at rows i)))
    → ((i : ℕ) → suc i < length rows → Inside (row_at rows i) (row_at rows (suc i)) x → P (Between (row_at rows i) (row_at rows (suc i)))) → P (place rows x)
unfolding place
place_case P rows x nonempty ends inside =
    cond_case (leb x (row_moment (row_at rows 0))) P (λ t. ends 0 nonempty) (λ t.
    cond_case (leb (row_moment (row_at rows last)) x) P (λ u. ends last (below nonempty)) (λ u.
    between (nleb→lt x (row_moment (row_at rows 0)) t) (nleb→lt (row_moment (row_at rows last)) x u)))
  where
    last : ℕ
    last = length rows - 1

    s : ℕ
    s = started rows x

    below : 0 < length rows → length rows - 1 < length rows
    below h = omega arith

    up : (n : ℕ) → 0 < n → suc (n - 1) ≡ n
    up n h = omega arith

    apart : s ≡ length rows → 0 < s → x < row_moment (row_at rows last) → ⊥
    apart e g h = go (subst (λ (n : ℕ). row_moment (row_at rows (n - 1)) ≤ x) e (started_is x rows g))
      where
        go : row_moment (row_at rows last) ≤ x → ⊥
        go k = omega arith

    less : (s n : ℕ) → s ≤ n → (s ≡ n → ⊥) → s < n
    less s n h k = ⊎_elim (λ e. absurd (k e)) (λ l. l) (N.eq-or-lt_of_le h)

    between : row_moment (row_at rows 0) < x → x < row_moment (row_at rows last) → P (Between (row_at rows (s - 1)) (row_at rows s))
    between h k =
        let g = started_positive x rows nonempty (N.le_of_lt h) in
        let l = less s (length rows) (started_le x rows) (λ e. apart e g k) in
        let e = up s g in
        subst (λ (n : ℕ). P (Between (row_at rows (s - 1)) (row_at rows n))) e
        (inside (s - 1) (subst (λ (n : ℕ). n < length rows) (sym e) l)
        (record { low = started_is x rows g; high = subst (λ (n : ℕ). x < row_moment (row_at rows n)) (sym e) (next_is x rows l) }))

-- the rows of the place are accepted, and x is inside
pub placed : (rows : List Row) → AcceptedTable rows → (x : ℕ) → Placed (place rows x) x
placed rows a x = place_case (λ p. Placed p x) rows x (N.le_of_suc-le a.fewest) (λ i l. accepted_row rows a i l) (λ i l k. (accepted_row rows a i (N.le_of_suc-le l), accepted_row rows a (suc i) l, k))

-- ---- rows i and i + 1 are around x for one i only

-- the row i is dated at or before x, and the next after it
pub record Around (rows : List Row) (x i : ℕ) : Type 0 where
  pub within : i + 1 < length rows
  pub low : row_moment (row_at rows i) ≤ x
  pub high : x < row_moment (row_at rows (i + 1))

-- from one row to a later one
later : (rows : List Row) → AcceptedTable rows → (j n : ℕ) → j + n < length rows → (row_at rows j).day ≤ (row_at rows (j + n)).day
later rows a j zero h = N.le_of_eq (ap (λ (k : ℕ). (row_at rows k).day) (sym (N.add-zero j)))
later rows a j (suc n) h =
    subst (λ (k : ℕ). (row_at rows j).day ≤ (row_at rows k).day) (sym (N.add-suc j n))
    (N.le_trans (later rows a j n (less h)) (N.le_of_lt (rising rows a (j + n) (subst (λ (k : ℕ). k < length rows) (N.add-suc j n) h))))
  where
    less : j + suc n < length rows → j + n < length rows
    less h = omega arith

later_date : (rows : List Row) → AcceptedTable rows → (j k : ℕ) → j ≤ k → k < length rows → row_moment (row_at rows j) ≤ row_moment (row_at rows k)
later_date rows a j k h l = go (row_at rows j) (row_at rows k) (subst (λ (i : ℕ). (row_at rows j).day ≤ (row_at rows i).day) e (later rows a j (k - j) (subst (λ (i : ℕ). i < length rows) (sym e) l)))
  where
    e : j + (k - j) ≡ k
    e = omega arith

    go : (b c : Row) → b.day ≤ c.day → row_moment b ≤ row_moment c
    go b c h = omega arith

at_least : (m n : ℕ) → (m < n → ⊥) → n ≤ m
at_least m n f = nltb→le m n (not_T (ltb m n) (λ t. f (ltb→lt m n t)))

clash : {x p q : ℕ} → x < p → p ≤ q → q ≤ x → ⊥
clash h k l = omega arith

-- fewer rows or more would put x on the wrong side of a date
around_is : (rows : List Row) → AcceptedTable rows → (x i : ℕ) → Around rows x i → started rows x ≡ i + 1
around_is rows a x i b = N.le_antisymm (at_least (i + 1) s not_more) (at_least s (i + 1) not_less)
  where
    s : ℕ
    s = started rows x

    not_less : s < i + 1 → ⊥
    not_less h = clash (next_is x rows (omega (arith, b.within))) (later_date rows a s i (omega arith) (omega (arith, b.within))) b.low

    not_more : i + 1 < s → ⊥
    not_more h = clash b.high (later_date rows a (i + 1) (s - 1) (omega arith) (omega (arith, started_le x rows))) (started_is x rows (omega arith))

-- ---- the place, by the cases that the code goes by

module _ (rows : List Row) (x : ℕ) where
  pub place_first : x ≤ row_moment (row_at rows 0) → place rows x ≡ End (row_at rows 0)
  unfolding place
  place_first h = simp (le-leb x (row_moment (row_at rows 0)) h)

  pub place_last : row_moment (row_at rows 0) < x → row_moment (row_at rows (length rows - 1)) ≤ x → place rows x ≡ End (row_at rows (length rows - 1))
  unfolding place
  place_last h k = simp (lt-leb x (row_moment (row_at rows 0)) h, le-leb (row_moment (row_at rows (length rows - 1))) x k)

  pub place_between : AcceptedTable rows → (i : ℕ) → row_moment (row_at rows 0) < x → x < row_moment (row_at rows (length rows - 1)) → Around rows x i
      → place rows x ≡ Between (row_at rows i) (row_at rows (i + 1))
  unfolding place
  place_between a i h k b = simp (lt-leb x (row_moment (row_at rows 0)) h, lt-leb (row_moment (row_at rows (length rows - 1))) x k, around_is rows a x i b, less)
    where
      less : i + 1 - 1 ≡ i
      less = omega arith

-- ---- the microseconds from one row's date to another's

pub days_apart : (a b : Row) → row_moment b - row_moment a ≡ (b.day - a.day) * day_micros
days_apart a b = omega arith
