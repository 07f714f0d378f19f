-- The angle of every row of the table, ours against the exact one, on every day from 1600 to 2400: within `row_angle_distance` units of 2^-41 turn,
-- but for whole turns. An argument is the difference of its two halves, each near its polynomial (Quartic), and its distance is worked out from their
-- constants; a row's angle is off by at most the sum over its columns of the multiplier's magnitude times the argument's distance. That this is
-- within `row_angle_distance` is one computed test over the table.
-- Assumes nothing.
use mathlib.Core.Path.{◌≡◌, sym, ◌∙◌, ap, ap₂, subst}
use mathlib.Core.Bool.{Bool, true, ◌&&◌}
use mathlib.Core.List.{List, [], ◌∷◌}
use Prim.Native.Nat.{ℕ, suc, ◌+◌, ◌*◌, ◌-◌, ◌/◌, ◌%◌, ◌^◌, ◌≤◌, ◌<◌}
use native.Mathlib.Nat as Nat
use native.Mathlib.Omega.{arith}
use lib.Dec.{T, leb, leb→le, lit≤}
use lib.ListN.{length, get_or}
use lib.IntN.{ℤ, pos, neg_ℤ, ◌+ℤ◌, ◌-ℤ◌, ◌*ℤ◌, nat_abs}
use lib.Signed.{le_z, le_z_yes}
use Rattle.instants.specs.Limits.{day_micros, days_covered, index_offset}
use Rattle.algebra.specs.Integers.{+◌, −◌}
use Rattle.algebra.proofs.Tests.{and_split, every, each}
use Rattle.algebra.proofs.Ring.{end, ◌▸◌, ring, quote}
use Rattle.algebra.proofs.Order.{≼_refl, ≼-add, nat_of, pos_sub}
use Rattle.algebra.proofs.Near.{near_as, near_refl}
use Rattle.algebra.proofs.Floor.{floor_next}
use Rattle.algebra.proofs.Turns.{Turns, turns_of, turns_wide, turns_left, turns_add, turns_scale, turns_removed, mod_is, remainder_less}
use Rattle.arguments.specs.declared.half.Half.{Half}
use Rattle.arguments.specs.Table.{multipliers}
use Rattle.instants.specs.Moments.{since_j2000, century, moment, latest, since}
use Rattle.arguments.specs.Exact.{Polynomial, value, F1, F2, F3, F4, F5, turn, turn_parts, exact_arguments, combination, exact_row_angle}
use Rattle.arguments.specs.Ours.{half_at, up₁, down₁, up₂, down₂, up₃, down₃, up₄, down₄, up₅, down₅, argument, our_arguments, column, columns, our_row_angle}
use Rattle.instants.proofs.Moments.{moment_le, moment_is}
use Rattle.arguments.proofs.Quartic.{argument_error, argument_near}

-- the distance of a row's angle, in units of 2^-41 turn
abbrev pub row_angle_distance : ℕ
row_angle_distance = 282

-- that of an argument, rounded up
abbrev pub argument_distance : Half → Half → Polynomial → ℕ
argument_distance up down p = suc (argument_error century turn latest up down p / (2 ^ 10 * turn_parts))

-- those of the five
unfoldable pub argument_distances : List ℕ
argument_distances =
    argument_distance up₁ down₁ F1 ∷ argument_distance up₂ down₂ F2 ∷ argument_distance up₃ down₃ F3 ∷ argument_distance up₄ down₄ F4 ∷ argument_distance up₅ down₅ F5 ∷ []

-- ---- one argument

-- up + (M − down mod M), modulo M, is up − down but for whole turns
difference_is : (u d M : ℕ) → 0 < M → (t : ℤ) × (pos ((u + (M - d % M)) % M) ≡ (pos u -ℤ pos d) +ℤ t *ℤ pos M)
difference_is u d M h = (
  pos 1 +ℤ pos (d / M) -ℤ pos ((u + (M - d % M)) / M),
  mod_is (u + (M - d % M)) M
      ∙ ap (λ (z : ℤ). pos u +ℤ z +ℤ neg_ℤ (pos ((u + (M - d % M)) / M)) *ℤ pos M)
      (pos_sub (Nat.le_of_lt (Nat.mod-lt d h)) ∙ ap (λ (z : ℤ). pos M -ℤ z) (mod_is d M))
      ∙ alg (pos u) (pos d) (pos M) (pos (d / M)) (pos ((u + (M - d % M)) / M)),
)
  where
    alg : (u d m q r : ℤ) → u +ℤ (m -ℤ (d +ℤ neg_ℤ q *ℤ m)) +ℤ neg_ℤ r *ℤ m ≡ (u -ℤ d) +ℤ (pos 1 +ℤ q -ℤ r) *ℤ m
    alg u d m q r = ring (u ▸ d ▸ m ▸ q ▸ r ▸ end) (search quote depth 13) tt

module _ (N T X e : ℕ) (up down : Half) (p : Polynomial) (x : ℕ) where
  one : x ≤ X → argument_error N T X up down p ≤ e * (2 ^ 10 * (T * N ^ 4))
      → Turns (2 ^ 41) (T * N ^ 4) (pos (argument up down x)) (value (pos N) p (pos x -ℤ pos 5 *ℤ pos N)) e
  one b t =
      let d = difference_is (half_at up x) (half_at down x) (2 ^ 41) (lit≤ tt) in
      turns_left (2 ^ 41) (T * N ^ 4) d.0 {z = pos (half_at up x) -ℤ pos (half_at down x)} {z' = pos (argument up down x)} {P = value (pos N) p (pos x -ℤ pos 5 *ℤ pos N)} d.1
      (turns_of (2 ^ 41) (T * N ^ 4) {z = pos (half_at up x) -ℤ pos (half_at down x)} {P = value (pos N) p (pos x -ℤ pos 5 *ℤ pos N)} (argument_near N T X e up down p x b t))

-- ---- a row: the combination

pub data All (M Q : ℕ) : List ℕ → List ℤ → List ℕ → Type 0 where
  none : All M Q [] [] []
  more : {a e : ℕ} {p : ℤ} {xs es : List ℕ} {ps : List ℤ} → a ≤ M → Turns M Q (pos a) p e → All M Q xs ps es → All M Q (a ∷ xs) (p ∷ ps) (e ∷ es)

-- the sum of the distances, each times its multiplier's magnitude
abbrev pub weight : List ℤ → List ℕ → ℕ
weight [] es = 0
weight (k ∷ ks) [] = 0
weight (k ∷ ks) (e ∷ es) = nat_abs k * e + weight ks es

-- no multiplier is below −2
abbrev pub from_minus_two : List ℤ → Bool
from_minus_two [] = true
from_minus_two (k ∷ ks) = le_z (− 2) k && from_minus_two ks

column_is : (k : ℤ) (a : ℕ) → T (le_z (− 2) k) → a ≤ 2 ^ 41 → pos (column k a) ≡ k *ℤ pos a +ℤ pos 2 *ℤ pos (2 ^ 41)
column_is k a t h =
    ap₂ (λ (y z : ℤ). y *ℤ pos a +ℤ pos 2 *ℤ z) (sym (nat_of (k +ℤ + 2) (≼-add (le_z_yes {a = − 2} {b = k} t) (≼_refl (+ 2))))) (pos_sub h) ∙ alg k (pos a) (pos (2 ^ 41))
  where
    alg : (k a m : ℤ) → (k +ℤ pos 2) *ℤ a +ℤ pos 2 *ℤ (m -ℤ a) ≡ k *ℤ a +ℤ pos 2 *ℤ m
    alg k a m = ring (k ▸ a ▸ m ▸ end) (search quote depth 13) tt

nothing : (M Q : ℕ) → Turns M Q (pos 0) (pos 0) 0
nothing M Q = turns_of M Q {z = pos 0} {P = pos 0} (near_as (near_refl (pos 0)) (left (pos Q)) (right (pos M)) (omega arith))
  where
    left : (q : ℤ) → pos 0 *ℤ q ≡ pos 0
    left q = ring (q ▸ end) (search quote depth 13) tt

    right : (m : ℤ) → m *ℤ pos 0 ≡ pos 0
    right m = ring (m ▸ end) (search quote depth 13) tt

combined : {Q : ℕ} {xs es : List ℕ} {ps : List ℤ} (ks : List ℤ) → T (from_minus_two ks) → All (2 ^ 41) Q xs ps es
    → Turns (2 ^ 41) Q (pos (columns ks xs)) (combination ks ps) (weight ks es)
combined {Q} [] t none = nothing (2 ^ 41) Q
combined {Q} [] t (more b n r) = nothing (2 ^ 41) Q
combined {Q} (k ∷ ks) t none = nothing (2 ^ 41) Q
combined {Q} (k ∷ ks) t (more {a} {e} {p} {xs} {es} {ps} b n r) =
    turns_add (2 ^ 41) Q {z = pos (column k a)} {z' = pos (columns ks xs)} {P = k *ℤ p} {P' = combination ks ps}
    (turns_left (2 ^ 41) Q (pos 2) {z = k *ℤ pos a} {z' = pos (column k a)} {P = k *ℤ p} (column_is k a (and_split (le_z (− 2) k) (from_minus_two ks) t).0 b) (turns_scale (2 ^ 41) Q k {z = pos a} {P = p} n))
    (combined ks (and_split (le_z (− 2) k) (from_minus_two ks) t).1 r)

-- ---- the table, tested once

abbrev pub good_row : List ℤ → Bool
good_row ks = from_minus_two ks && leb (weight ks argument_distances) row_angle_distance

rows_good : T (every good_row multipliers)
unfolding argument_distances
rows_good = tt

-- ---- the fact

-- an argument
argument_turns : (up down : Half) (p : Polynomial) (x : ℕ) → x ≤ latest
    → Turns (2 ^ 41) turn_parts (pos (argument up down x)) (value (pos century) p (pos x -ℤ pos 5 *ℤ pos century)) (argument_distance up down p)
argument_turns up down p x b =
    one century turn latest (argument_distance up down p) up down p x b (floor_next (argument_error century turn latest up down p) (2 ^ 10 * turn_parts) (lit≤ tt))

-- every argument is below a turn
argument_less : (up down : Half) (x : ℕ) → argument up down x < 2 ^ 41
argument_less up down x = Nat.mod-lt (half_at up x + (2 ^ 41 - half_at down x % 2 ^ 41)) (lit≤ tt)

-- the five
all_near : (x : ℕ) → x ≤ latest → All (2 ^ 41) turn_parts (our_arguments x) (exact_arguments (pos x -ℤ pos 5 *ℤ pos century)) argument_distances
unfolding argument_distances
all_near x b =
    more (Nat.le_of_lt (argument_less up₁ down₁ x)) (argument_turns up₁ down₁ F1 x b)
    (more (Nat.le_of_lt (argument_less up₂ down₂ x)) (argument_turns up₂ down₂ F2 x b)
    (more (Nat.le_of_lt (argument_less up₃ down₃ x)) (argument_turns up₃ down₃ F3 x b)
    (more (Nat.le_of_lt (argument_less up₄ down₄ x)) (argument_turns up₄ down₄ F4 x b)
    (more (Nat.le_of_lt (argument_less up₅ down₅ x)) (argument_turns up₅ down₅ F5 x b) none))))

-- On the day of index i and day number d, at the microsecond m, our angle of the row r and the exact one are within `row_angle_distance` units of
-- 2^-41 turn, but for whole turns.
pub row_angle_near : (d : ℤ) (i m r : ℕ) → d ≡ pos i -ℤ pos index_offset → i < days_covered → m < day_micros → r < length multipliers
    → Turns (2 ^ 41) turn_parts (pos (our_row_angle r (moment i m))) (pos (exact_row_angle r (since_j2000 d m))) row_angle_distance
unfolding since
row_angle_near d i m r hd hi hm hr =
    subst (λ (n : ℤ). Turns (2 ^ 41) turn_parts (pos (our_row_angle r (moment i m))) (pos (exact_row_angle r n)) row_angle_distance) (sym (moment_is d i m hd))
    (turns_wide (2 ^ 41) turn_parts (leb→le (weight ks argument_distances) row_angle_distance t.1)
    (turns_removed (lit≤ tt) (combined ks t.0 (all_near (moment i m) (moment_le i m hi hm)))))
  where
    ks : List ℤ
    ks = get_or multipliers r []

    t : T (from_minus_two ks) × T (leb (weight ks argument_distances) row_angle_distance)
    t = and_split (from_minus_two ks) (leb (weight ks argument_distances) row_angle_distance) (each good_row multipliers rows_good [] r hr)

-- the angles are below a turn
pub our_angle_less : (r x : ℕ) → our_row_angle r x < 2 ^ 41
our_angle_less r x = Nat.mod-lt (columns (get_or multipliers r []) (our_arguments x)) (lit≤ tt)

pub exact_angle_less : (r : ℕ) (n : ℤ) → exact_row_angle r n < turn_parts
exact_angle_less r n = remainder_less (combination (get_or multipliers r []) (exact_arguments n)) turn_parts (lit≤ tt)
