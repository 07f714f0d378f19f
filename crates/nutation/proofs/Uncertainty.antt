-- The uncertainty between two rows is what is interpolated of theirs, which is above 0 (crates/rows/proofs/Interpolated.antt). So its absolute value is
-- itself: without one the answer to every input is the same.
-- Assumes nothing.
use mathlib.Core.Path.{◌≡◌, refl, sym, ◌∙◌, ap, subst}
use mathlib.Core.List.{List}
use Prim.Native.Nat.{ℕ, zero, suc, ◌+◌, ◌*◌, ◌-◌, ◌≤◌, ◌<◌}
use native.Mathlib.Nat as N
use native.Mathlib.Omega.{arith}
use lib.Dec.{lit≤, ltb→lt}
use lib.IntN.{ℤ, pos}
use lib.Signed.{◌<ℤ◌}
use Rattle.instants.specs.Refusals.{refused_or, number}
use Rattle.instants.specs.Instants.{instant_cases, IsAccepted}
use Rattle.instants.specs.Moments.{moment_of}
use Rattle.instants.proofs.FirstRefusal.{in_both_lem, none_answered}
use Rattle.rows.specs.declared.Row.{Row}
use Rattle.rows.specs.declared.Place.{Place}
use Rattle.rows.specs.declared.Place.TheVariants.{End, Between}
use Rattle.rows.specs.Table.{AcceptedTable}
use Rattle.rows.specs.BuiltIn.{built_in}
use Rattle.rows.specs.Places.{row_moment, place, parts}
use Rattle.rows.specs.Claims.{interpolated_uncertainty}
use Rattle.rows.specs.Inner.{Placed}
use Rattle.rows.proofs.Accepted.{built_in_accepted}
use Rattle.rows.proofs.Places.{placed}
use Rattle.rows.proofs.Interpolated.{parts_positive, weighted, above}
use Rattle.row_bytes.specs.Form.{table_in, bytes_cases, AcceptedBytes}
use Rattle.row_bytes.proofs.Forms.{table_held}
use Rattle.nutation.specs.declared.Offsets.{Offsets}
use Rattle.nutation.specs.Exact.{u_value, u_parts, round_up, uncertainty_at, exact_uncertainty}
use Rattle.nutation.specs.Ours.{offsets_at, nutation_with, nutation_of, nutation_rows_of, uncertainty_of}
use Rattle.nutation.proofs.Rounding.{value_natural, round_up_low}
use Rattle.nutation.proofs.Promises.{nutation_near, rows_near}
use Rattle.std.specs.Prelude.{Result, Ok, Err}
use Rattle.instants.specs.declared.refusal.Refusal.{Refusal}

-- ---- between two rows

-- PROMISE. Between two rows of an accepted table u is what is interpolated of their uncertainties, numerator and denominator.
pub u_interpolated : (rows : List Row) → AcceptedTable rows → (x : ℕ) (a b : Row) → place rows x ≡ Between a b
    → (pos (u_value (Between a b) x) ≡ interpolated_uncertainty (Between a b) x) × (u_parts (Between a b) ≡ parts (Between a b))
unfolding u_value u_parts parts
u_interpolated rows t x a b e =
    let h = (subst (λ (p : Place). Placed p x) e (placed rows t x)).2 in
    (ap pos (value_natural a b x h) ∙ sym (weighted a b x h), refl)

-- ---- above 0

value_positive : (p : Place) (x : ℕ) → Placed p x → 0 < u_value p x
unfolding u_value
value_positive (End r) x h = N.lt_of_lt_of_le (N.mul-pos h.uncertainty_positive (lit≤ tt)) (N.le-add_right _ _)
value_positive (Between a b) x h = rw (value_natural a b x h.2) (ltb→lt 0 _ (subst (λ (z : ℤ). pos 0 <ℤ z) (weighted a b x h.2) (above (Between a b) x h)).lt)

u_parts_positive : (p : Place) (x : ℕ) → Placed p x → 0 < u_parts p
unfolding u_parts parts
u_parts_positive (End r) x h = lit≤ tt
u_parts_positive (Between a b) x h = parts_positive (Between a b) x h

round_up_positive : (n d : ℕ) → 0 < n → 0 < d → 0 < round_up n d
round_up_positive n d h k = go (round_up n d) (round_up_low n d k)
  where
    go : (q : ℕ) → n ≤ q * d → 0 < q
    go zero l = omega (arith, h, l)
    go (suc q) l = N.zero-lt-suc q

exact_positive : (rows : List Row) → AcceptedTable rows → (x : ℕ) → 0 < exact_uncertainty rows x
unfolding uncertainty_at
exact_positive rows t x =
    let p = placed rows t x in
    round_up_positive _ _ (N.mul-pos (lit≤ tt) (N.mul-pos (lit≤ tt) (value_positive (place rows x) x p))) (u_parts_positive (place rows x) x p)

-- PROMISE. The uncertainty that the service gives at an accepted instant is above 0.
pub answered_above : (d : ℤ) (m : ℕ) → IsAccepted d m → 0 < uncertainty_of (nutation_of d m)
answered_above d m a = let n = nutation_near d m a in rw (n.1, n.2.uncertainty_is) (exact_positive built_in built_in_accepted (moment_of d m))

-- PROMISE. And so is the one with the rows of accepted bytes.
pub rows_above : (s : List ℕ) → AcceptedBytes s → (d : ℤ) (m : ℕ) → IsAccepted d m → 0 < uncertainty_of (nutation_rows_of s d m)
rows_above s e d m a = let n = rows_near s e d m a in rw (n.1, n.2.uncertainty_is) (exact_positive (table_in s) (table_held s e) (moment_of d m))

-- ---- the same answers without an absolute value

-- u as a natural number by construction, and the uncertainty and the offsets by any such u
abbrev pub u_natural : Place → ℕ → ℕ
u_natural (End r) x = u_value (End r) x
u_natural (Between a b) x = a.uncertainty * (row_moment b - x) + b.uncertainty * (x - row_moment a)

abbrev pub offsets_by : (Place → ℕ → ℕ) → Place → ℕ → Offsets
offsets_by u p x = record { x = (offsets_at p x).x; y = (offsets_at p x).y; uncertainty = round_up (2 * (10 * u p x)) (u_parts p) }

abbrev pub answer_by : (Place → ℕ → ℕ) → List Row → ℤ → ℕ → Result Offsets Refusal
answer_by u rows d m = refused_or Err (instant_cases d m) (Ok (offsets_by u (place rows (moment_of d m)) (moment_of d m)))

value_same : (p : Place) (x : ℕ) → Placed p x → u_value p x ≡ u_natural p x
value_same (End r) x h = refl
value_same (Between a b) x h = value_natural a b x h.2

answer_same : (rows : List Row) → AcceptedTable rows → (d : ℤ) (m : ℕ) → nutation_with rows d m ≡ answer_by u_natural rows d m
unfolding offsets_at uncertainty_at
answer_same rows t d m = ap (λ (k : ℕ). refused_or Err (instant_cases d m) (Ok (offsets_by (λ _ _. k) (place rows (moment_of d m)) (moment_of d m))))
    (value_same (place rows (moment_of d m)) (moment_of d m) (placed rows t (moment_of d m)))

-- The service's answer to every input is what it would be without the absolute value.
pub nutation_same : (d : ℤ) (m : ℕ) → nutation_of d m ≡ answer_by u_natural built_in d m
unfolding nutation_of
nutation_same = answer_same built_in built_in_accepted

-- And so is the answer with the caller's rows, to any bytes.
pub rows_same : (s : List ℕ) (d : ℤ) (m : ℕ) → nutation_rows_of s d m ≡ refused_or Err (bytes_cases s) (answer_by u_natural (table_in s) d m)
unfolding nutation_rows_of
rows_same s d m =
    in_both_lem (λ (x y : (Result Offsets Refusal)). x ≡ y) Err Err (bytes_cases s) _ _ (λ n. refl)
    (λ h. answer_same (table_in s) (table_held s (none_answered number (bytes_cases s) 0 h)) d m)
