-- The lookup by its three cases, and the probes at an instant. What it finds is the place of x: halving leaves neighbours around x, and there is but one such pair
-- (`place_between`). It probes as many rows as halving does. Assumes nothing.
use mathlib.Core.Path.{◌≡◌, refl, sym, ◌∙◌, ap, subst}
use mathlib.Core.List.{List, ◌++◌}
use Prim.Native.Nat.{ℕ, ◌+◌, ◌-◌, ◌^◌, ◌≤◌, ◌<◌, zero-le}
use native.Mathlib.Nat as N
use native.Mathlib.Omega.{arith}
use lib.Dec.{leb, leb→le, nleb→lt, lit≤}
use lib.IntN.{ℤ}
use lib.ListN.{length}
use borrow.Author.Tests.{le-leb, lt-leb, eq-eqb, ne_eqb}
use Rattle.instants.specs.Refusals.{first_refusal, refused_or, check, number}
use Rattle.std.specs.Prelude.{Result, Err}
use Rattle.std.specs.Result.{result_unwrap_or}
use Rattle.instants.specs.declared.refusal.Refusal.{Refusal}
use Rattle.instants.specs.Instants.{instant_cases, IsAccepted}
use Rattle.instants.specs.Moments.{moment_of}
use Rattle.instants.proofs.FirstRefusal.{in_each, handed_on, none_answered, refused_checked, refused_same}
use Rattle.instants.proofs.Accepted.{answered_too}
use Rattle.algebra.proofs.Tests.{cond_case}
use Rattle.rows.specs.declared.Row.{Row}
use Rattle.rows.specs.declared.Place.TheVariants.{Between}
use Rattle.rows.specs.Table.{row_at, AcceptedTable}
use Rattle.rows.specs.BuiltIn.{built_in}
use Rattle.rows.specs.Places.{row_moment, place}
use Rattle.rows.proofs.Places.{Around, place_first, place_last, place_between}
use Rattle.row_bytes.specs.Form.{row_count, table_in, bytes_cases, AcceptedBytes}
use Rattle.row_bytes.proofs.Reading.{table_count}
use Rattle.row_bytes.proofs.Forms.{accepted_none, table_held}
use Rattle.row_places.specs.declared.Bracket.{Bracket}
use Rattle.row_places.specs.Lookup.{bracket, halving, lookup_of, place_in, probes_with, probes_of, probes_rows_of}
use Rattle.row_places.specs.Inner.{probes_answer, probes_rows_answer}
use Rattle.row_places.proofs.Halving.{Spans, halving_spans, halving_most}

module _ (rows : List Row) (x : ℕ) where
  abbrev last : ℕ
  last = length rows - 1

  -- ---- the cases

  pub lookup_first : x ≤ row_moment (row_at rows 0) → lookup_of rows x ≡ bracket 0 0 0
  unfolding lookup_of
  lookup_first h = rw (le-leb x (row_moment (row_at rows 0)) h) refl

  pub lookup_last : row_moment (row_at rows 0) < x → row_moment (row_at rows last) ≤ x → lookup_of rows x ≡ bracket last last 0
  unfolding lookup_of
  lookup_last h k = rw (lt-leb x (row_moment (row_at rows 0)) h, le-leb (row_moment (row_at rows last)) x k) refl

  pub lookup_amid : row_moment (row_at rows 0) < x → x < row_moment (row_at rows last) → lookup_of rows x ≡ halving rows x (bracket 0 last 0)
  unfolding lookup_of
  lookup_amid h k = rw (lt-leb x (row_moment (row_at rows 0)) h, lt-leb (row_moment (row_at rows last)) x k) refl

  lookup_case : (P : Bracket → Type 0) → (x ≤ row_moment (row_at rows 0) → P (bracket 0 0 0))
      → (row_moment (row_at rows 0) < x → row_moment (row_at rows last) ≤ x → P (bracket last last 0))
      → (row_moment (row_at rows 0) < x → x < row_moment (row_at rows last) → P (halving rows x (bracket 0 last 0))) → P (lookup_of rows x)
  unfolding lookup_of
  lookup_case P before after amid =
      cond_case (leb x (row_moment (row_at rows 0))) P (λ t. before (leb→le x (row_moment (row_at rows 0)) t)) (λ t.
      let h = nleb→lt x (row_moment (row_at rows 0)) t in
      cond_case (leb (row_moment (row_at rows last)) x) P (λ u. after h (leb→le (row_moment (row_at rows last)) x u)) (λ u.
      amid h (nleb→lt (row_moment (row_at rows last)) x u)))

  -- ---- what it finds

  -- between the dates of the first and the last row: neighbours around x
  found : 2 ≤ length rows → row_moment (row_at rows 0) < x → x < row_moment (row_at rows last)
      → let b = halving rows x (bracket 0 last 0) in Around rows x b.lower × (b.upper ≡ b.lower + 1)
  found two h k = go (halving rows x (bracket 0 last 0)) (halving_spans rows x (length rows) (bracket 0 last 0) (record { apart = omega arith; within = omega arith; low = N.le_of_lt h; high = k }))
    where
      go : (b : Bracket) → Spans rows x (length rows) b × (b.upper ≤ b.lower + 1) → Around rows x b.lower × (b.upper ≡ b.lower + 1)
      go b s =
          let e : b.upper ≡ b.lower + 1 = omega (arith, s.0.apart, s.1) in
          (record { within = omega (arith, s.0.within, s.0.apart); low = s.0.low; high = subst (λ (i : ℕ). x < row_moment (row_at rows i)) e s.0.high }, e)

  -- rows of the table
  pub lookup_within : 2 ≤ length rows → ((lookup_of rows x).lower < length rows) × ((lookup_of rows x).upper < length rows)
  lookup_within two =
      lookup_case (λ (b : Bracket). (b.lower < length rows) × (b.upper < length rows)) (λ h. (omega arith, omega arith)) (λ h k. (omega arith, omega arith))
      (λ h k. let f = found two h k in (omega (arith, f.0.within), omega (arith, f.0.within, f.1)))

  -- PROMISE. The rows that the lookup finds are those of the place, in any accepted table.
  pub lookup_place : AcceptedTable rows → place rows x ≡ place_in rows (lookup_of rows x)
  lookup_place a =
      lookup_case (λ (b : Bracket). place rows x ≡ place_in rows b) (place_first rows x)
      (λ h k. place_last rows x h k ∙ rw (eq-eqb last last refl) refl)
      (λ h k. let f = found a.fewest h k in between (halving rows x (bracket 0 last 0)) f.1 (place_between rows x a _ h k f.0))
    where
      between : (b : Bracket) → b.upper ≡ b.lower + 1 → place rows x ≡ Between (row_at rows b.lower) (row_at rows (b.lower + 1)) → place rows x ≡ place_in rows b
      between b e p = rw (ne_eqb b.lower b.upper (λ q. omega arith), e) p

  -- ---- how many probes it takes

  -- PROMISE. At or outside the ends none.
  pub probes_before : x ≤ row_moment (row_at rows 0) → (lookup_of rows x).probes ≡ 0
  probes_before h = ap (λ (b : Bracket). b.probes) (lookup_first h)

  pub probes_after : row_moment (row_at rows last) ≤ x → (lookup_of rows x).probes ≡ 0
  probes_after k = lookup_case (λ (b : Bracket). b.probes ≡ 0) (λ h. refl) (λ h l. refl) (λ h l. absurd (omega arith))

  -- PROMISE. Of n rows at most p, where n - 1 is at most 2^p.
  pub probes_most : (p : ℕ) → length rows - 1 ≤ 2 ^ p → (lookup_of rows x).probes ≤ p
  probes_most p l = lookup_case (λ (b : Bracket). b.probes ≤ p) (λ h. zero-le) (λ h k. zero-le) (λ h k. omega (arith, halving_most rows x p (bracket 0 last 0) (omega arith)))

-- ---- the answers

-- of an answer the number, or 0 for a refusal
pub answer_number : (rows : List Row) (d : ℤ) (m : ℕ) → result_unwrap_or (probes_answer rows d m) 0 ≡ probes_with rows d m
answer_number rows d m = handed_on Err (λ (r : Result ℕ Refusal). result_unwrap_or r 0) (λ n. refl) (instant_cases d m) _

module _ (s : List ℕ) (d : ℤ) (m : ℕ) where
  pub rows_answer_number : result_unwrap_or (probes_rows_answer s d m) 0 ≡ probes_rows_of s d m
  unfolding probes_rows_answer probes_rows_of
  rows_answer_number =
      handed_on Err (λ (r : Result ℕ Refusal). result_unwrap_or r 0) (λ n. refl) (bytes_cases s) _
      ∙ ap (λ (n : ℕ). refused_or (λ _. 0) (bytes_cases s) n) (answer_number (table_in s) d m)

  -- the bytes are refused, or the lookup is among their rows
  pub rows_refused : (r : Refusal) → check (bytes_cases s) ≡ Err r → Err r ≡ probes_rows_answer s d m
  unfolding probes_rows_answer
  rows_refused r e = sym (refused_checked Err (bytes_cases s) _ r e)

  pub rows_looked_up : AcceptedBytes s → probes_answer (table_in s) d m ≡ probes_rows_answer s d m
  unfolding probes_rows_answer
  rows_looked_up e = sym (none_answered Err (bytes_cases s) _ (accepted_none s e))

-- ---- at an instant

-- PROMISE. With accepted bytes the probes are those among their rows, at every instant, a refused one too.
pub probes_answered : (s : List ℕ) → AcceptedBytes s → (d : ℤ) (m : ℕ) → probes_rows_of s d m ≡ probes_with (table_in s) d m
unfolding probes_rows_of
probes_answered s e d m = none_answered (λ n. 0) (bytes_cases s) _ (accepted_none s e)

-- of an accepted instant those of the lookup at its moment
pub probes_looked_up : (rows : List Row) (d : ℤ) (m : ℕ) → IsAccepted d m → probes_with rows d m ≡ (lookup_of rows (moment_of d m)).probes
probes_looked_up rows d m a = sym (answered_too (λ n. 0) _ d m a)

pub built_in_looked_up : (d : ℤ) (m : ℕ) → IsAccepted d m → probes_of d m ≡ (lookup_of built_in (moment_of d m)).probes
unfolding probes_of
built_in_looked_up = probes_looked_up built_in

-- PROMISE. Beside a refusal of the offsets' edition they are 0.
pub probes_refused : (d : ℤ) (m : ℕ) → (first_refusal (instant_cases d m) ≡ 0 → ⊥) → probes_of d m ≡ 0
unfolding probes_of
probes_refused d m = refused_same 0 (instant_cases d m) _

pub rows_probes_refused : (s : List ℕ) (d : ℤ) (m : ℕ) → (first_refusal (bytes_cases s ++ instant_cases d m) ≡ 0 → ⊥) → probes_rows_of s d m ≡ 0
unfolding probes_rows_of
rows_probes_refused s d m = refused_same 0 (bytes_cases s ++ instant_cases d m) _

-- with the rows of a table never more than the lookup's most
with_most : (rows : List Row) (p : ℕ) → length rows - 1 ≤ 2 ^ p → (d : ℤ) (m : ℕ) → probes_with rows d m ≤ p
with_most rows p h d m = in_each (λ n. 0) (λ (k : ℕ). k ≤ p) (instant_cases d m) _ (λ n. zero-le) (λ _. probes_most rows (moment_of d m) p h)

-- PROMISE. Of the built-in rows at most five are probed, at any instant.
pub most_five : (d : ℤ) (m : ℕ) → probes_of d m ≤ 5
unfolding probes_of built_in
most_five d m = with_most built_in 5 (lit≤ tt) d m

-- PROMISE. Of n rows in bytes at most p, where n - 1 is at most 2^p; and never more than eight.
pub rows_most : (s : List ℕ) (p : ℕ) → row_count (length s) - 1 ≤ 2 ^ p → (d : ℤ) (m : ℕ) → probes_rows_of s d m ≤ p
unfolding probes_rows_of
rows_most s p h d m =
    in_each (λ n. 0) (λ (k : ℕ). k ≤ p) (bytes_cases s) _ (λ n. zero-le) (λ _. with_most (table_in s) p (omega (arith, table_count s)) d m)

pub most_eight : (s : List ℕ) (d : ℤ) (m : ℕ) → probes_rows_of s d m ≤ 8
unfolding probes_rows_of
most_eight s d m =
    in_each (λ n. 0) (λ (k : ℕ). k ≤ 8) (bytes_cases s) _ (λ n. zero-le) (λ none.
    with_most (table_in s) 8 (omega (arith, (table_held s (none_answered number (bytes_cases s) 0 none)).most)) d m)
