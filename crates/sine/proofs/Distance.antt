-- THE DISTANCE FACT: our sine and cosine against the exact ones, at any two angles that are near one another, whole turns apart or not.
-- Up to a quarter turn there are two parts: the routine's own error at q parts of a quarter (12 units of 2^-31, Quarter), and the cut of the angle to
-- such parts, by at most 511 units of 2^-41 turn, which the sine makes at most 16 times as large: 8 units. That both together are within
-- `sine_distance` is one computed test. Both sines are odd, so the same holds on a quarter on either side of zero; every angle is folded to there, and
-- near angles have near folds (Fold). The angles' own distance e adds 16 * e units of 2^-41, which is e / 64 units of 2^-31. The cosine is the sine a
-- quarter turn on.
-- Assumes nothing.
use mathlib.Core.Path.{◌≡◌, refl, sym, ◌∙◌, ap, subst}
use Prim.Native.Nat.{ℕ, zero, suc, ◌+◌, ◌*◌, ◌-◌, ◌/◌, ◌%◌, ◌^◌, ◌≤◌, ◌<◌}
use native.Mathlib.Nat as N
use native.Mathlib.Nat.{le_trans, le_of_eq}
use native.Mathlib.Omega.{arith}
use lib.Dec.{lit≤}
use lib.IntN.{ℤ, pos, negsuc, neg_ℤ, ◌+ℤ◌, ◌*ℤ◌, nat_abs}
use lib.Signed.{shr_z}
use Rattle.algebra.specs.Near.{Near}
use Rattle.algebra.proofs.Ring.{end, ◌▸◌, ring, quote}
use Rattle.algebra.proofs.Order.{abs_mul}
use Rattle.algebra.proofs.Near.{near_ℕ, near_as, near_wide, near_trans, near_neg, near_scale, near_unscale}
use Rattle.algebra.proofs.Floor.{near_floor, floor_next, near_rounded}
use Rattle.algebra.proofs.Turns.{Turns, turns_of, turns_wide, turns_add, turns_removed}
use Rattle.sine.specs.Exact.{S, sine_den, whole_turn, exact_sine, exact_cosine}
use Rattle.sine.specs.Ours.{alternating, quarter_parts, one_part, sine_quarter, quarter_turn, our_sine, our_cosine}
use Rattle.sine.specs.Within.{sine_distance, SineWithin}
use Rattle.sine.proofs.Angles.{signed_s, S-odd, S-fine, S-moves, sine_den_fine, sine_den_positive, slope}
use Rattle.sine.proofs.Fold.{Fold, fold_is, fold_scale, fold_small, fold_near, odd_turn}
use Rattle.sine.proofs.Quarter.{routine_error, quarter_near}

-- ---- on a quarter, with the cut to parts of it

alg₂ : (w f : ℤ) → w *ℤ f ≡ f *ℤ w
alg₂ w f = ring (w ▸ f ▸ end) (search quote depth 13) tt

alg₃ : (k x y : ℤ) → x *ℤ (k *ℤ y) ≡ k *ℤ (x *ℤ y)
alg₃ k x y = ring (k ▸ x ▸ y ▸ end) (search quote depth 13) tt

-- s stands for the sine of r / c of Q parts of a turn, in units of 1 / F, so for that of r of c * Q parts. E units are lost by r / c rounded down.
cut : (c Q F k E e r : ℕ) (s : ℤ) → 0 < c → 0 < k → c * Q ≡ k * F → slope * (c - 1) ≤ k * E → 4 * r ≤ c * Q
    → Near (s *ℤ pos (sine_den Q)) (signed_s Q (pos (r / c)) *ℤ pos F) (e * sine_den Q)
    → Near (s *ℤ pos (sine_den (c * Q))) (signed_s (c * Q) (pos r) *ℤ pos F) ((e + E) * sine_den (c * Q))
cut c Q F k E e r s hc hk kF hE hr h = near_wide (near_trans fine moved) (le_of_eq (alg e E (sine_den (c * Q))))
  where
    alg : (e f d : ℕ) → e * d + f * d ≡ (e + f) * d
    alg e f d = omega arith

    alg₄ : (k e d : ℕ) → k * (e * d) ≡ e * (k * d)
    alg₄ k e d = omega arith

    fine : Near (s *ℤ pos (sine_den (c * Q))) (signed_s (c * Q) (pos c *ℤ pos (r / c)) *ℤ pos F) (e * sine_den (c * Q))
    fine = near_as (near_scale (pos (c ^ 23)) h)
        (ap (λ (d : ℕ). s *ℤ pos d) (sine_den_fine c Q) ∙ alg₃ (pos (c ^ 23)) s (pos (sine_den Q)))
        (ap (λ (x : ℤ). x *ℤ pos F) (S-fine c Q (pos (r / c))) ∙ alg₅ (pos (c ^ 23)) (signed_s Q (pos (r / c))) (pos F))
        (le_of_eq (alg₄ (c ^ 23) e (sine_den Q) ∙ ap (λ (d : ℕ). e * d) (sym (sine_den_fine c Q))))
      where
        alg₅ : (k x y : ℤ) → k *ℤ x *ℤ y ≡ k *ℤ (x *ℤ y)
        alg₅ k x y = ring (k ▸ x ▸ y ▸ end) (search quote depth 13) tt

    floor : Near (pos c *ℤ pos (r / c)) (pos r) (c - 1)
    floor = near_as (near_floor r c hc) (alg₂ (pos c) (pos (r / c))) refl (N.le_refl (c - 1))

    below : 4 * (c * (r / c)) ≤ c * Q
    below = le_trans (N.mul-le-mul_left 4 (le_trans (le_of_eq (N.mul_comm c (r / c))) (N.div-mul-le_self r c))) hr

    error : slope * (c - 1) * sine_den (c * Q) ≤ k * (E * sine_den (c * Q)) + 0
    error = omega (arith, N.mul-le-mul_right (sine_den (c * Q)) hE)

    moved : Near (signed_s (c * Q) (pos c *ℤ pos (r / c)) *ℤ pos F) (signed_s (c * Q) (pos r) *ℤ pos F) (E * sine_den (c * Q))
    moved = near_unscale k (near_as (S-moves (c * Q) (c - 1) (pos c *ℤ pos (r / c)) (pos r) below hr floor) (side (pos c *ℤ pos (r / c))) (side (pos r)) error) hk
      where
        alg₆ : (k x f : ℤ) → k *ℤ (x *ℤ f) ≡ k *ℤ f *ℤ x
        alg₆ k x f = ring (k ▸ x ▸ f ▸ end) (search quote depth 13) tt

        side : (z : ℤ) → pos k *ℤ (signed_s (c * Q) z *ℤ pos F) ≡ pos (c * Q) *ℤ signed_s (c * Q) z
        side z = alg₆ (pos k) (signed_s (c * Q) z) (pos F) ∙ ap (λ (m : ℕ). pos m *ℤ signed_s (c * Q) z) (sym kF)

-- the error of the cut in units of 2^-31, rounded up; a unit is 2^10 of 2^-41
abbrev cut_error : ℕ
cut_error = suc (slope * (one_part - 1) / 2 ^ 10)

-- the computed test: both errors together are within the distance that is promised
sine_room : routine_error + cut_error ≤ sine_distance
unfolding routine_error
sine_room = lit≤ tt

quarter_cut : (r : ℕ) → 4 * r ≤ 2 ^ 41 → Near (pos (sine_quarter (r / one_part)) *ℤ pos (sine_den (2 ^ 41))) (signed_s (2 ^ 41) (pos r) *ℤ pos (2 ^ 31)) (sine_distance * sine_den (2 ^ 41))
unfolding S signed_s
quarter_cut r h =
    near_wide
    (cut one_part (4 * quarter_parts) (2 ^ 31) (2 ^ 10) cut_error routine_error r (pos (sine_quarter (r / one_part))) (lit≤ tt) (lit≤ tt) refl
    (le_trans (floor_next (slope * (one_part - 1)) (2 ^ 10) (lit≤ tt)) (le_of_eq (N.mul_comm cut_error (2 ^ 10)))) h (quarter_near (r / one_part) (small r h)))
    (N.mul-le-mul_right (sine_den (2 ^ 41)) sine_room)
  where
    small : (r : ℕ) → 4 * r ≤ 2 ^ 41 → r / one_part ≤ quarter_parts
    small r h = omega arith

-- ---- on a quarter on either side of zero

sine_fold : ℤ → ℤ
sine_fold (pos r) = pos (sine_quarter (r / one_part))
sine_fold (negsuc n) = neg_ℤ (pos (sine_quarter (suc n / one_part)))

sine_fold_odd : (n : ℕ) → sine_fold (neg_ℤ (pos n)) ≡ neg_ℤ (sine_fold (pos n))
unfolding sine_fold sine_quarter alternating
sine_fold_odd zero = refl
sine_fold_odd (suc n) = refl

sine_fold_near : (z : ℤ) → 4 * nat_abs z ≤ 2 ^ 41 → Near (sine_fold z *ℤ pos (sine_den (2 ^ 41))) (signed_s (2 ^ 41) z *ℤ pos (2 ^ 31)) (sine_distance * sine_den (2 ^ 41))
unfolding sine_fold
sine_fold_near (pos r) h = quarter_cut r h
sine_fold_near (negsuc n) h =
    near_as (near_neg (quarter_cut (suc n) h)) (alg (pos (sine_quarter (suc n / one_part))) (pos (sine_den (2 ^ 41))))
    (ap (λ (x : ℤ). x *ℤ pos (2 ^ 31)) (S-odd (2 ^ 41) (pos (suc n))) ∙ alg (signed_s (2 ^ 41) (pos (suc n))) (pos (2 ^ 31))) (N.le_refl (sine_distance * sine_den (2 ^ 41)))
  where
    alg : (x y : ℤ) → neg_ℤ x *ℤ y ≡ neg_ℤ (x *ℤ y)
    alg x y = ring (x ▸ y ▸ end) (search quote depth 13) tt

our_fold : (b : ℕ) → our_sine b ≡ sine_fold (whole_turn pos (2 ^ 41) b)
unfolding our_sine quarter_turn sine_fold
our_fold b = odd_turn sine_fold sine_fold_odd (2 ^ 41) b

exact_fold : (Q A : ℕ) → exact_sine Q A ≡ signed_s Q (whole_turn pos Q A)
unfolding exact_sine S signed_s
exact_fold Q A = odd_turn (signed_s Q) (λ n. S-odd Q (pos n)) Q A

-- ---- the promise, at one angle

own_near : (b : ℕ) → b < 2 ^ 41 → Near (our_sine b *ℤ pos (sine_den (2 ^ 41))) (exact_sine (2 ^ 41) b *ℤ pos (2 ^ 31)) (sine_distance * sine_den (2 ^ 41))
own_near b h =
    near_as (sine_fold_near (whole_turn pos (2 ^ 41) b) (N.mul-le-mul_left 4 (fold_small (fold_is (2 ^ 39) b (omega arith)))))
    (ap (λ (z : ℤ). z *ℤ pos (sine_den (2 ^ 41))) (our_fold b)) (ap (λ (z : ℤ). z *ℤ pos (2 ^ 31)) (exact_fold (2 ^ 41) b)) (N.le_refl (sine_distance * sine_den (2 ^ 41)))

-- PROMISE. At every angle, whole turns removed, our sine and our cosine are within the promised distance of the exact ones.
pub sine_within : (b : ℕ) → b < 2 ^ 41 → SineWithin b
unfolding our_cosine exact_cosine
sine_within b h = record {
  positive = sine_den_positive (2 ^ 41) (lit≤ tt);
  sine = own_near b h;
  cosine = own_near ((b + 2 ^ 39) % 2 ^ 41) (N.mod-lt (b + 2 ^ 39) (lit≤ tt));
}

-- ---- at two angles: y of B parts of a turn and x of Q parts, on a quarter on either side of zero

-- v stands for the sine of y, in units of 1 / F; and 16 * 64 * F is B
two_angles : (B Q F own e : ℕ) (v x y : ℤ) → 0 < B → 0 < Q → B ≡ slope * (64 * F) → 4 * nat_abs y ≤ B → 4 * nat_abs x ≤ Q
    → Near (v *ℤ pos (sine_den B)) (signed_s B y *ℤ pos F) (own * sine_den B) → Near (pos Q *ℤ y) (pos B *ℤ x) (e * Q)
    → Near (v *ℤ pos (64 * sine_den Q)) (signed_s Q x *ℤ pos (64 * F)) ((64 * own + e) * sine_den Q)
two_angles B Q F own e v x y hB hQ hF hy hx hv hxy =
    near_unscale (B ^ 23) (near_as (near_trans ours moved)
    (alg₁ (pos (B ^ 23)) v (pos (sine_den Q)) ∙ ap (λ (d : ℕ). v *ℤ pos (64 * d)) (sym den_n')) (alg₂' (pos (B ^ 23)) (signed_s Q x) (pos (64 * F)) ∙ ap (λ (z : ℤ). z *ℤ pos (64 * F)) (sym sine_n'))
    (le_of_eq (alg₃' own e (sine_den (Q * B)) ∙ ap (λ (d : ℕ). (64 * own + e) * d) den_n' ∙ alg₄ (64 * own + e) (B ^ 23) (sine_den Q)))) (N.one-le-pow 23 B hB)
  where
    alg₁ : (k v d : ℤ) → k *ℤ (v *ℤ (pos 64 *ℤ d)) ≡ v *ℤ (pos 64 *ℤ (k *ℤ d))
    alg₁ k v d = ring (k ▸ v ▸ d ▸ end) (search quote depth 13) tt

    alg₂' : (k s f : ℤ) → k *ℤ (s *ℤ f) ≡ k *ℤ s *ℤ f
    alg₂' k s f = ring (k ▸ s ▸ f ▸ end) (search quote depth 13) tt

    alg₃' : (o e d : ℕ) → 64 * (o * d) + e * d ≡ (64 * o + e) * d
    alg₃' o e d = omega arith

    alg₄ : (a k d : ℕ) → a * (k * d) ≡ k * (a * d) + 0
    alg₄ a k d = omega arith

    den_n : sine_den (Q * B) ≡ Q ^ 23 * sine_den B
    den_n = sine_den_fine Q B

    den_n' : sine_den (Q * B) ≡ B ^ 23 * sine_den Q
    den_n' = ap sine_den (N.mul_comm Q B) ∙ sine_den_fine B Q

    sine_n : signed_s (Q * B) (pos Q *ℤ y) ≡ pos (Q ^ 23) *ℤ signed_s B y
    sine_n = S-fine Q B y

    sine_n' : signed_s (Q * B) (pos B *ℤ x) ≡ pos (B ^ 23) *ℤ signed_s Q x
    sine_n' = ap (λ (k : ℕ). signed_s k (pos B *ℤ x)) (N.mul_comm Q B) ∙ S-fine B Q x

    ours : Near (v *ℤ pos (64 * sine_den (Q * B))) (signed_s (Q * B) (pos Q *ℤ y) *ℤ pos (64 * F)) (64 * (own * sine_den (Q * B)))
    ours = near_as (near_scale (pos (64 * Q ^ 23)) hv)
        (ap (λ (d : ℕ). v *ℤ pos (64 * d)) den_n ∙ alg₅ (pos (Q ^ 23)) v (pos (sine_den B))) (ap (λ (z : ℤ). z *ℤ pos (64 * F)) sine_n ∙ alg₆ (pos (Q ^ 23)) (signed_s B y) (pos F))
        (le_of_eq (alg₇ (Q ^ 23) own (sine_den B) ∙ ap (λ (d : ℕ). 64 * (own * d)) (sym den_n)))
      where
        alg₅ : (k v d : ℤ) → v *ℤ (pos 64 *ℤ (k *ℤ d)) ≡ pos 64 *ℤ k *ℤ (v *ℤ d)
        alg₅ k v d = ring (k ▸ v ▸ d ▸ end) (search quote depth 13) tt

        alg₆ : (k s f : ℤ) → k *ℤ s *ℤ (pos 64 *ℤ f) ≡ pos 64 *ℤ k *ℤ (s *ℤ f)
        alg₆ k s f = ring (k ▸ s ▸ f ▸ end) (search quote depth 13) tt

        alg₇ : (k o d : ℕ) → 64 * k * (o * d) ≡ 64 * (o * (k * d))
        alg₇ k o d = omega arith

    small : (n m : ℕ) (z : ℤ) → 4 * nat_abs z ≤ m → 4 * nat_abs (pos n *ℤ z) ≤ n * m
    small n m z h = le_trans (le_of_eq (ap (λ (k : ℕ). 4 * k) (abs_mul (pos n) z))) (omega (arith, N.mul-le-mul_left n h))

    moved : Near (signed_s (Q * B) (pos Q *ℤ y) *ℤ pos (64 * F)) (signed_s (Q * B) (pos B *ℤ x) *ℤ pos (64 * F)) (e * sine_den (Q * B))
    moved = near_unscale (slope * Q) (near_as (S-moves (Q * B) (e * Q) (pos Q *ℤ y) (pos B *ℤ x) (small Q B y hy) (le_trans (small B Q x hx) (le_of_eq (N.mul_comm B Q))) hxy)
        (side (signed_s (Q * B) (pos Q *ℤ y))) (side (signed_s (Q * B) (pos B *ℤ x))) (le_of_eq (alg₈ e Q (sine_den (Q * B))))) (N.mul-pos (lit≤ tt) hQ)
      where
        alg₈ : (e q d : ℕ) → slope * (e * q) * d ≡ slope * q * (e * d) + 0
        alg₈ e q d = omega arith

        alg₉ : (s q f : ℤ) → pos 16 *ℤ q *ℤ (s *ℤ f) ≡ q *ℤ (pos 16 *ℤ f) *ℤ s
        alg₉ s q f = ring (s ▸ q ▸ f ▸ end) (search quote depth 13) tt

        side : (s : ℤ) → pos (slope * Q) *ℤ (s *ℤ pos (64 * F)) ≡ pos (Q * B) *ℤ s
        side s = alg₉ s (pos Q) (pos (64 * F)) ∙ ap (λ (k : ℕ). pos (Q * k) *ℤ s) (sym hF)

-- ---- the fact

-- v of 2^31 and n of D are within sine_distance + e / 64 of 2^31 parts
abbrev pub SineNear : ℤ → ℤ → ℕ → ℕ → Type 0
SineNear v n D e = Near (v *ℤ pos (64 * D)) (n *ℤ pos (64 * 2 ^ 31)) ((64 * sine_distance + e) * D)

-- b of 2^41 parts of a turn and A of 4 * P parts are within e of 2^41 parts, but for whole turns
pub sine_near : (P A b e : ℕ) → 0 < P → A < 4 * P → b < 2 ^ 41 → Turns (2 ^ 41) (4 * P) (pos b) (pos A) e
    → SineNear (our_sine b) (exact_sine (4 * P) A) (sine_den (4 * P)) e
sine_near P A b e hP hA hb n =
    near_as (two_angles (2 ^ 41) Q (2 ^ 31) sine_distance e (sine_fold y) x y (lit≤ tt) (omega arith) refl y_small x_small (sine_fold_near y y_small) folds)
    (ap (λ (z : ℤ). z *ℤ pos (64 * sine_den Q)) (our_fold b)) (ap (λ (z : ℤ). z *ℤ pos (64 * 2 ^ 31)) (exact_fold Q A)) (N.le_refl ((64 * sine_distance + e) * sine_den Q))
  where
    Q : ℕ
    Q = 4 * P

    x : ℤ
    x = whole_turn pos Q A

    y : ℤ
    y = whole_turn pos (2 ^ 41) b

    x_fold : Fold P A x
    x_fold = fold_is P A (omega arith)

    y_fold : Fold (2 ^ 39) b y
    y_fold = fold_is (2 ^ 39) b (omega arith)

    x_small : 4 * nat_abs x ≤ Q
    x_small = N.mul-le-mul_left 4 (fold_small x_fold)

    y_small : 4 * nat_abs y ≤ 2 ^ 41
    y_small = N.mul-le-mul_left 4 (fold_small y_fold)

    parts : (P : ℕ) → 4 * P * 2 ^ 39 ≡ 2 ^ 41 * P
    parts P = omega arith

    turns : (P : ℕ) → 4 * (2 ^ 41 * P) ≡ 2 ^ 41 * (4 * P)
    turns P = omega arith

    folds : Near (pos Q *ℤ y) (pos (2 ^ 41) *ℤ x) (e * Q)
    folds = fold_near {P = 2 ^ 41 * P} {B = Q * b} n.turns (omega (arith, N.mul-le-mul_left (4 * P) hb)) (omega arith)
        (near_as n.near (ap pos (N.mul_comm Q b)) (ap (λ (k : ℕ). pos (2 ^ 41 * A) +ℤ n.turns *ℤ pos k) (turns P)) (N.le_refl (e * Q)))
        (subst (λ (k : ℕ). Fold k (Q * b) (pos Q *ℤ y)) (parts P) (fold_scale Q y_fold)) (fold_scale (2 ^ 41) x_fold)

-- a quarter more of both angles, and whole turns removed
pub cosine_near : (P A b e : ℕ) → 0 < P → A < 4 * P → b < 2 ^ 41 → Turns (2 ^ 41) (4 * P) (pos b) (pos A) e
    → SineNear (our_cosine b) (exact_cosine (4 * P) A) (sine_den (4 * P)) e
unfolding our_cosine exact_cosine
cosine_near P A b e hP hA hb n =
    sine_near P ((A + 4 * P / 4) % (4 * P)) ((b + 2 ^ 39) % 2 ^ 41) e hP (N.mod-lt (A + 4 * P / 4) turn) (N.mod-lt (b + 2 ^ 39) (lit≤ tt))
    (turns_removed {b = b + 2 ^ 39} {P = pos (A + 4 * P / 4)} turn
    (turns_wide (2 ^ 41) (4 * P) {z = pos (b + 2 ^ 39)} {P = pos (A + 4 * P / 4)} (omega arith)
    (turns_add (2 ^ 41) (4 * P) {z = pos b} {z' = pos (2 ^ 39)} {P = pos A} {P' = pos (4 * P / 4)} n quarter)))
  where
    turn : 0 < 4 * P
    turn = omega arith

    quarter : Turns (2 ^ 41) (4 * P) (pos (2 ^ 39)) (pos (4 * P / 4)) 0
    quarter = turns_of (2 ^ 41) (4 * P) {z = pos (2 ^ 39)} {P = pos (4 * P / 4)} (near_ℕ {m = 2 ^ 39 * (4 * P)} {n = 2 ^ 41 * (4 * P / 4)} (omega arith) (omega arith))

-- ---- a sum of sines, f times it rounded to the nearest whole number

-- K / 64 units of 2^-31 are the distance of the sum v from x / D, and g that of the answer from f * x / D
pub rounded_near : (f D K g : ℕ) (v x : ℤ) → f * K + 64 * 2 ^ 30 ≤ g * (64 * 2 ^ 31) → Near (v *ℤ pos (64 * D)) (x *ℤ pos (64 * 2 ^ 31)) (K * D)
    → Near (shr_z (pos f *ℤ v +ℤ pos (2 ^ 30)) (2 ^ 31) *ℤ pos D) (pos f *ℤ x) (g * D)
rounded_near f D K g v x h near =
    near_unscale (64 * 2 ^ 31) (near_as (near_trans (near_scale (pos (64 * D)) (near_rounded (2 ^ 30) (pos f *ℤ v) (lit≤ tt))) (near_as (near_scale (pos f) near) (alg₁ (pos f) v (pos (64 * D))) refl (N.le_refl (f * (K * D)))))
    (alg₂ (shr_z (pos f *ℤ v +ℤ pos (2 ^ 30)) (2 ^ 31)) (pos D) (pos (2 ^ 31))) (alg₃ (pos f) x (pos (64 * 2 ^ 31)))
    error) (lit≤ tt)
  where
    alg₁ : (f v k : ℤ) → k *ℤ (f *ℤ v) ≡ f *ℤ (v *ℤ k)
    alg₁ f v k = ring (f ▸ v ▸ k ▸ end) (search quote depth 13) tt

    alg₂ : (a d u : ℤ) → pos 64 *ℤ u *ℤ (a *ℤ d) ≡ pos 64 *ℤ d *ℤ (a *ℤ u)
    alg₂ a d u = ring (a ▸ d ▸ u ▸ end) (search quote depth 13) tt

    alg₃ : (f x k : ℤ) → k *ℤ (f *ℤ x) ≡ f *ℤ (x *ℤ k)
    alg₃ f x k = ring (f ▸ x ▸ k ▸ end) (search quote depth 13) tt

    error : 64 * D * 2 ^ 30 + f * (K * D) ≤ 64 * 2 ^ 31 * (g * D) + 0
    error = omega (arith, N.mul-le-mul_right D h)
