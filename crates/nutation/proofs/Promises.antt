-- What is promised of the answers: where they are given, how near they are, that both editions answer alike, and that no constant would do.
-- Assumes nothing.
use mathlib.Core.Path.{◌≡◌, refl, sym, ◌∙◌, ap}
use mathlib.Core.List.{List}
use Prim.Native.Nat.{ℕ, ◌+◌, ◌*◌, ◌<◌}
use lib.Dec.{lit≤}
use lib.IntN.{ℤ, ◌-ℤ◌, nat_abs}
use Rattle.instants.specs.Instants.{outside, day_index, acceptance, IsAccepted}
use Rattle.instants.proofs.FirstRefusal.{none_answered}
use Rattle.instants.proofs.Accepted.{answered_too}
use Rattle.instants.proofs.Moments.{accepted_le}
use Rattle.algebra.specs.Integers.{+◌}
use Rattle.algebra.specs.Near.{Near}
use Rattle.algebra.proofs.Near.{near_one_fraction, near_two_apart}
use Rattle.sine.specs.Exact.{whole_turn}
use Rattle.sine.specs.Ours.{alternating, sine_quarter, quarter_turn, our_sine, our_cosine}
use Rattle.instants.specs.Moments.{moment_of}
use Rattle.rows.specs.declared.Row.{Row}
use Rattle.nutation.specs.declared.Offsets.{Offsets}
use Rattle.rows.specs.Table.{AcceptedTable}
use Rattle.rows.specs.BuiltIn.{built_in}
use Rattle.rows.specs.Places.{started, place, span}
use Rattle.nutation.specs.Exact.{exact_x, exact_y, exact_den}
use Rattle.nutation.specs.Ours.{our_angle, factor, mixed, amplitude, offset, offsets_at, our_offsets, nutation_with, nutation_of, nutation_rows_of}
use Rattle.nutation.specs.Claims.{distance, OffsetWithin, OffsetsNear}
use Rattle.rows.proofs.Accepted.{built_in_accepted}
use Rattle.row_bytes.specs.Form.{table_bytes, table_in, bytes_cases, AcceptedBytes}
use Rattle.row_bytes.proofs.Forms.{accepted_none, table_held}
use Rattle.row_bytes.proofs.Round.{table_back, table_accepted}
use Rattle.nutation.proofs.Distance.{offsets_near}
use Rattle.std.specs.Prelude.{Ok, Err}

-- ---- accepted instants

near_here : (rows : List Row) → AcceptedTable rows → (d : ℤ) (m : ℕ) → IsAccepted d m → OffsetsNear rows (moment_of d m) (our_offsets rows (moment_of d m))
near_here rows t d m a = offsets_near rows t (moment_of d m) (accepted_le d m a)

-- With any accepted table the answer at every accepted instant is given, both offsets within 2 nanoarcseconds of the exact ones and the uncertainty
-- exact.
answer_near : (rows : List Row) → AcceptedTable rows → (d : ℤ) (m : ℕ) → IsAccepted d m
    → (o : Offsets) × (nutation_with rows d m ≡ Ok o) × OffsetsNear rows (moment_of d m) o
answer_near rows t d m a = (our_offsets rows (moment_of d m), sym (answered_too Err _ d m a), near_here rows t d m a)

-- PROMISE. The service's answer at every accepted instant is given, of the built-in rows: both offsets within 2 nanoarcseconds of the exact ones and the
-- uncertainty exact.
pub nutation_near : (d : ℤ) (m : ℕ) → IsAccepted d m → (o : Offsets) × (nutation_of d m ≡ Ok o) × OffsetsNear built_in (moment_of d m) o
unfolding nutation_of
nutation_near d m a = answer_near built_in built_in_accepted d m a

-- ---- rows from the caller

-- PROMISE. With accepted bytes the service is that over their rows, at every instant, a refused one too.
pub rows_answered : (s : List ℕ) → AcceptedBytes s → (d : ℤ) (m : ℕ) → nutation_rows_of s d m ≡ nutation_with (table_in s) d m
unfolding nutation_rows_of
rows_answered s e d m = none_answered Err (bytes_cases s) _ (accepted_none s e)

-- PROMISE. Accepted rows, written as bytes, are answered as those rows are.
pub rows_alike : (rows : List Row) → AcceptedTable rows → (d : ℤ) (m : ℕ) → nutation_rows_of (table_bytes rows) d m ≡ nutation_with rows d m
rows_alike rows a d m = rows_answered (table_bytes rows) (table_accepted rows a) d m ∙ ap (λ (t : List Row). nutation_with t d m) (table_back rows a)

-- PROMISE. The built-in rows, written as bytes, are accepted and give the built-in edition's answer at every instant.
pub built_in_alike : AcceptedBytes (table_bytes built_in) × ((d : ℤ) (m : ℕ) → nutation_rows_of (table_bytes built_in) d m ≡ nutation_of d m)
unfolding nutation_of
built_in_alike = (table_accepted built_in built_in_accepted, rows_alike built_in built_in_accepted)

-- PROMISE. With accepted bytes the answer at every accepted instant is given, of their rows: both offsets within 2 nanoarcseconds of the exact ones and
-- the uncertainty exact.
pub rows_near : (s : List ℕ) → AcceptedBytes s → (d : ℤ) (m : ℕ) → IsAccepted d m
    → (o : Offsets) × (nutation_rows_of s d m ≡ Ok o) × OffsetsNear (table_in s) (moment_of d m) o
rows_near s e d m a = let n = answer_near (table_in s) (table_held s e) d m a in (n.0, rows_answered s e d m ∙ n.1, n.2)

-- ---- no constant

-- two days of the table, 1987-01-01 and 2009-01-01
early_accepted : IsAccepted (+ 46796) 0
unfolding acceptance outside day_index
early_accepted = refl

late_accepted : IsAccepted (+ 54832) 0
unfolding acceptance outside day_index
late_accepted = refl

-- Either offset, ours and the exact one: a number within the distance of the exact offset on both days is within twice the distance of ours on both, but
-- ours are more than four times the distance apart.
no_constant : (ours exact : ℕ → ℤ) → ((d : ℤ) (m : ℕ) → IsAccepted d m → OffsetWithin (ours (moment_of d m)) (exact (moment_of d m)) (exact_den built_in (moment_of d m)))
    → 4 * distance < nat_abs (ours (moment_of (+ 46796) 0) -ℤ ours (moment_of (+ 54832) 0))
    → (c : ℤ) → ((d : ℤ) (m : ℕ) → IsAccepted d m → OffsetWithin c (exact (moment_of d m)) (exact_den built_in (moment_of d m))) → ⊥
no_constant ours exact near t c h = near_two_apart (at (+ 46796) 0 early_accepted) (at (+ 54832) 0 late_accepted) t
  where
    at : (d : ℤ) (m : ℕ) → IsAccepted d m → Near c (ours (moment_of d m)) (distance + distance)
    at d m a = near_one_fraction distance distance (near_here built_in built_in_accepted d m a).positive (h d m a) (near d m a)

abbrev at_both : (Offsets → ℤ) → ℤ
at_both f = f (our_offsets built_in (moment_of (+ 46796) 0)) -ℤ f (our_offsets built_in (moment_of (+ 54832) 0))

both_apart : (4 * distance < nat_abs (at_both (λ o. o.x))) × (4 * distance < nat_abs (at_both (λ o. o.y)))
unfolding offsets_at built_in place started span factor mixed amplitude offset day_index our_angle our_sine our_cosine whole_turn quarter_turn sine_quarter alternating
both_apart = (lit≤ tt, lit≤ tt)

-- PROMISE. No one number, zero among them, is within 2 nanoarcseconds of X at every accepted instant.
pub no_constant_x : (c : ℤ) → ((d : ℤ) (m : ℕ) → IsAccepted d m → OffsetWithin c (exact_x built_in (moment_of d m)) (exact_den built_in (moment_of d m))) → ⊥
no_constant_x = no_constant (λ x. (our_offsets built_in x).x) (exact_x built_in) (λ d m a. (near_here built_in built_in_accepted d m a).x_near) both_apart.0

-- PROMISE. And none of Y.
pub no_constant_y : (c : ℤ) → ((d : ℤ) (m : ℕ) → IsAccepted d m → OffsetWithin c (exact_y built_in (moment_of d m)) (exact_den built_in (moment_of d m))) → ⊥
no_constant_y = no_constant (λ x. (our_offsets built_in x).y) (exact_y built_in) (λ d m a. (near_here built_in built_in_accepted d m a).y_near) both_apart.1
