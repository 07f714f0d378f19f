-- Ranges. Places side by side, before ranges that start further on, are one range more. The ranges of a walk start at or behind the place it starts
-- from, so each hop adds one range at most; they are apart, and their places are the passed ones. Assumes nothing.
use Prim.Native.Nat.{ℕ, zero, suc, ◌+◌, ◌-◌, ◌*◌, ◌<◌, ◌≤◌}
use mathlib.Core.Path.{◌≡◌, refl, ap, sym, subst, ◌∙◌}
use mathlib.Core.Bool.{Bool, true, false, cond}
use mathlib.Core.List.{List, [], ◌∷◌, ◌++◌}
use native.Mathlib.Omega.{arith}
use native.Mathlib.Decide.{dec_lt}
use native.Mathlib.Numerals.{add-one}
use lib.Dec.{eqb}
use lib.ListN.{length}
use borrow.Author.Tests.{lt-ltb, le-ltb, eq-eqb, ne_eqb, eqb-true, eqb-false}
use Rattle.record.specs.Format.{record_length}
use Rattle.rescue.specs.Walk.{range, Walk, walk_from, joined, ranges_of}
use Rattle.rescue.specs.declared.Range.{Range}
use Rattle.rescue.specs.Rescue.{ranges_in}
use Rattle.rescue.specs.Inner.{Hop, range_to}
use Rattle.rescue.specs.Claims.{places_from, places_of, StartsAfter, Apart}
use Rattle.rescue.proofs.Hops.{hop_passed}
use Rattle.rescue.proofs.Walks.{walk_ends, walk_keeps, walk_case}

-- ---- places side by side

-- a place behind which there is a gap, or nothing
joined_apart : (i : ℕ) (rs : List Range) → StartsAfter (i + 1) rs → joined i rs ≡ range i 1 ∷ rs
joined_apart i [] h = refl
joined_apart i (r ∷ rs) h = rw (ne_eqb (i + 1) r.start (λ e. omega arith)) refl

-- n places from i on, before ranges behind a gap
pub joined_places : (n i : ℕ) (ps : List ℕ) → StartsAfter (i + n) (ranges_of ps) → ranges_of (places_from i n ++ ps) ≡ range_to i (i + n) ++ ranges_of ps
unfolding ranges_of
joined_places zero i ps h = rw (le-ltb i (i + 0) (omega arith)) refl
joined_places (suc zero) i ps h =
    let e : i + 1 - i ≡ 1 = omega arith in
    joined_apart i (ranges_of ps) h ∙ rw (lt-ltb i (i + 1) (omega arith), e) refl
joined_places (suc (suc n)) i ps h =
    let e : i + 1 + suc n ≡ i + suc (suc n) = omega arith in
    let a : i + suc (suc n) - (i + 1) ≡ suc n = omega arith in
    let b : i + suc (suc n) - i ≡ suc n + 1 = omega arith in
    let r : ranges_of (places_from (i + 1) (suc n) ++ ps) ≡ range (i + 1) (suc n) ∷ ranges_of ps =
    joined_places (suc n) (i + 1) ps (rw e h) ∙ rw (e, lt-ltb (i + 1) (i + suc (suc n)) (omega arith), a) refl in
    ap (joined i) r ∙ rw (eq-eqb (i + 1) (i + 1) refl, lt-ltb i (i + suc (suc n)) (omega arith), b) refl

-- ---- the ranges of a walk

-- the first range starts at place i or behind it
abbrev StartsFrom : ℕ → List Range → Type 0
StartsFrom i [] = Unit {0}
StartsFrom i (r ∷ rs) = i ≤ r.start

starts_from : (i j : ℕ) (rs : List Range) → i ≤ j → StartsFrom j rs → StartsFrom i rs
starts_from i j [] l h = tt
starts_from i j (r ∷ rs) l h = omega arith

starts_after_lem : (i j : ℕ) (rs : List Range) → i < j → StartsFrom j rs → StartsAfter i rs
starts_after_lem i j [] l h = tt
starts_after_lem i j (r ∷ rs) l h = omega arith

-- ranges that end among n bytes
abbrev pub Within : ℕ → List Range → Type 0
Within n [] = Unit {0}
Within n (r ∷ rs) = (r.start + r.size ≤ n) × Within n rs

-- the ranges from place i of n bytes: in order and apart; and there are few, since a record of thirty bytes is between two of them
record Spaced (n i : ℕ) (rs : List Range) : Type 0 where
  pub from : StartsFrom i rs
  pub apart : Apart rs
  pub within : Within n rs
  pub few : 31 * length rs ≤ n - i + 30
  pub fewer : StartsAfter i rs → 31 * length rs ≤ n - i

-- one more place
joined_spaced : (n i : ℕ) (rs : List Range) → i < n → Spaced n (i + 1) rs → Spaced n i (joined i rs)
joined_spaced n i [] l h =
    record { from = omega arith; apart = (omega arith, tt, tt); within = (omega arith, tt); few = omega arith; fewer = λ g. absurd (omega arith) }
joined_spaced n i (r ∷ rs) l h = by (eqb (i + 1) r.start) refl
  where
    by : (b : Bool) → eqb (i + 1) r.start ≡ b → Spaced n i (cond b (range i (r.size + 1) ∷ rs) (range i 1 ∷ r ∷ rs))
    by true e =
        let q : i + 1 ≡ r.start = eqb-true (i + 1) r.start e in
        let g : r.start + r.size ≡ i + (r.size + 1) = omega arith in
        record {
          from = omega arith;
          apart = (omega arith, subst (λ (k : ℕ). StartsAfter k rs) g h.apart.1, h.apart.2);
          within = (omega (arith, h.within.0), h.within.1);
          few = omega (arith, h.few);
          fewer = λ f. absurd (omega arith);
        }
    by false e =
        let q : i + 1 < r.start = omega (arith, h.from, eqb-false (i + 1) r.start e) in
        record { from = omega arith; apart = (omega arith, q, h.apart); within = (omega arith, h.within); few = omega (arith, h.fewer q); fewer = λ f. absurd (omega arith) }

-- those of a walk
spaced : (s : List ℕ) (i : ℕ) → Spaced (length s) i (ranges_of (walk_from s i).passed)
unfolding ranges_of
spaced s =
    walk_case (λ (i : ℕ) (w : Walk). Spaced (length s) i (ranges_of w.passed)) s
    (λ i h. record { from = tt; apart = tt; within = tt; few = omega arith; fewer = λ f. omega arith })
    (λ i w e h p. record { from = starts_from i (i + record_length) (ranges_of w.passed) (omega arith) p.from; apart = p.apart; within = p.within; few = omega (arith, p.few); fewer = λ f. omega (arith, p.few) })
    (λ i w e h p. joined_spaced (length s) i (ranges_of w.passed) h p)

-- a hop adds a range, or none
pub hop_ranges : (s : List ℕ) (i j : ℕ) → Hop s i j → ranges_of (walk_from s i).passed ≡ range_to i j ++ ranges_of (walk_from s j).passed
unfolding ranges_of
hop_ranges s i j h =
    let q : i + (j - i) ≡ j = omega (arith, h.onward) in
    ap ranges_of (hop_passed s i j h)
    ∙ (joined_places (j - i) i (walk_from s j).passed (subst (λ (k : ℕ). StartsAfter k (ranges_of (walk_from s j).passed)) (sym q) (gap (dec_lt j (length s))))
    ∙ ap (λ (k : ℕ). range_to i k ++ ranges_of (walk_from s j).passed) q)
  where
    -- a record is behind it, or the end
    gap : Dec (j < length s) → StartsAfter j (ranges_of (walk_from s j).passed)
    gap (yes l) =
        subst (λ (x : Walk). StartsAfter j (ranges_of x.passed)) (sym (walk_keeps s j (h.found l)))
        (starts_after_lem j (j + record_length) (ranges_of (walk_from s (j + record_length)).passed) (omega arith) (spaced s (j + record_length)).from)
    gap (no l) = subst (λ (x : Walk). StartsAfter j (ranges_of x.passed)) (sym (walk_ends s j (omega (arith, l)))) tt

-- ---- what they are

-- PROMISE. The ranges are in order, and a byte or more is between each and the next.
pub ranges_apart : (s : List ℕ) → Apart (ranges_in s)
unfolding ranges_in
ranges_apart s = (spaced s 0).apart

-- PROMISE. They are few: each but the last has a record behind it, and so takes 31 bytes or more.
pub ranges_few : (s : List ℕ) → 31 * length (ranges_in s) ≤ length s + 30
unfolding ranges_in
ranges_few s = omega (arith, (spaced s 0).few)

pub ranges_within : (s : List ℕ) → Within (length s) (ranges_in s)
unfolding ranges_in
ranges_within s = (spaced s 0).within

joined_places_of : (i : ℕ) (rs : List Range) → places_of (joined i rs) ≡ i ∷ places_of rs
joined_places_of i [] = refl
joined_places_of i (r ∷ rs) = by (eqb (i + 1) r.start) refl
  where
    by : (b : Bool) → eqb (i + 1) r.start ≡ b → places_of (cond b (range i (r.size + 1) ∷ rs) (range i 1 ∷ r ∷ rs)) ≡ i ∷ places_of (r ∷ rs)
    by true e =
        ap (λ (n : ℕ). places_from i n ++ places_of rs) (add-one r.size)
        ∙ ap (λ (k : ℕ). i ∷ (places_from k r.size ++ places_of rs)) (eqb-true (i + 1) r.start e)
    by false e = refl

-- PROMISE. The places of the ranges of places are these places.
pub places_of_ranges : (ps : List ℕ) → places_of (ranges_of ps) ≡ ps
unfolding ranges_of
places_of_ranges [] = refl
places_of_ranges (i ∷ ps) = joined_places_of i (ranges_of ps) ∙ ap (λ (l : List ℕ). i ∷ l) (places_of_ranges ps)
