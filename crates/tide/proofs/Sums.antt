-- How large the numbers are at an instant for phases, of any day from 1600 to 2400, so that none is an infinity: the fraction of the day is at most 2
-- and the centuries at most 7, so the Delaunay arguments F1 to F5 are at most 3503193 and their frequencies 8, the twelve Doodson arguments at most
-- 15 million, and a sum of six products with multipliers up to 12 at most 72 times that. Each bound follows from those before by Bounded's laws.
-- Assumes nothing.
use mathlib.Core.Path.{◌≡◌, refl}
use mathlib.Core.List.{List, [], ◌∷◌}
use Prim.Native.Nat.{ℕ, ◌*◌, ◌≤◌, ◌<◌}
use native.Mathlib.Nat.{le_of_lt}
use native.Mathlib.Omega.{arith}
use lib.Dec.{T, lit≤, lit<}
use lib.ListN.{get_or}
use lib.IntN.{ℤ, pos, nat_abs}
use lib.Ieee.{Float, of_int}
use Rattle.instants.specs.Limits.{day_micros}
use Rattle.instants.specs.Instants.{day_index}
use Rattle.instants.proofs.Accepted.{accepted_at}
use Rattle.utc.specs.PhaseInstants.{PhaseInstant}
use Rattle.utc.proofs.PhaseInstants.{parts_accepted, utc_less}
use Rattle.tide.specs.declared.Doodson.{Doodson}
use Rattle.tide.specs.declared.Arguments.{Arguments}
use Rattle.binary64.specs.Words.{◌⊕◌, ◌⊖◌, ◌⊗◌, whole, decimal64, zero64}
use Rattle.tide.specs.Delaunay.{horner, F1, F2, F3, F4, F5, FD1, FD2, FD3, FD4, FD5}
use Rattle.tide.specs.Tidal.{day_fraction, centuries, arguments_of, arguments_at, sum_of_products, in_range, all_in_range, doodson}
use Rattle.tide.proofs.Signed.{day_most, accepted_size, range_size, Each, each}
use Rattle.binary64.proofs.Bounded.{Bound, known, number, wide, negated, added, subtracted, multiplied, divided, zero_product}

-- ---- f and t
fraction_bound : (m : ℕ) → m < 2 * day_micros → Bound 2 (day_fraction m)
unfolding day_fraction of_int
fraction_bound m h = divided 10546875 13 tt refl (lit< tt) (number 172_800_000_000 (pos m) tt (le_of_lt h))

centuries_bound : (d : ℤ) (f : Float) → nat_abs d ≤ day_most → Bound 2 f → Bound 7 (centuries d f)
unfolding centuries of_int decimal64
centuries_bound d f h a = divided 36525 0 tt refl (lit< tt) (wide tt (added tt (subtracted tt (subtracted tt (number day_most d tt h) (number 51544 (pos 51544) tt (lit≤ tt))) (known {B = 1} tt)) a))

-- ---- the Delaunay arguments and their frequencies

-- 400 + 7 * (500000 + 7 * (1 + 7 * (1 + 7 * 1)))
abbrev delaunay_most : ℕ
delaunay_most = 3_503_193

horner_bound : {t c0 c1 c2 c3 c4 : Float} → Bound 7 t → Bound 400 c0 → Bound 500_000 c1 → Bound 1 c2 → Bound 1 c3 → Bound 1 c4 → Bound delaunay_most (horner t c0 c1 c2 c3 c4)
unfolding horner
horner_bound t c0 c1 c2 c3 c4 = added tt c0 (multiplied tt t (added tt c1 (multiplied tt t (added tt c2 (multiplied tt t (added tt c3 (multiplied tt t c4)))))))

module _ {t : Float} (h : Bound 7 t) where
  -- all five at once
  delaunay : Bound delaunay_most (F1 t) × Bound delaunay_most (F2 t) × Bound delaunay_most (F3 t) × Bound delaunay_most (F4 t) × Bound delaunay_most (F5 t)
  unfolding F1 F2 F3 F4 F5 decimal64
  delaunay = (
    horner_bound h (known tt) (known tt) (known tt) (known tt) (known tt),
    horner_bound h (known tt) (known tt) (known tt) (known tt) (known tt),
    horner_bound h (known tt) (known tt) (known tt) (known tt) (known tt),
    horner_bound h (known tt) (known tt) (known tt) (known tt) (known tt),
    horner_bound h (known tt) (known tt) (known tt) (known tt) (known tt),
  )

  -- c + d * t and c - d * t
  rising : {c d : Float} → Bound 1 c → Bound 1 d → Bound 8 (c ⊕ d ⊗ t)
  rising c d = added tt c (multiplied tt d h)

  falling : {c d : Float} → Bound 1 c → Bound 1 d → Bound 8 (c ⊖ d ⊗ t)
  falling c d = subtracted tt c (multiplied tt d h)

  -- that of l' is a constant
  frequencies : Bound 8 (FD1 t) × Bound 1 FD2 × Bound 8 (FD3 t) × Bound 8 (FD4 t) × Bound 8 (FD5 t)
  unfolding FD1 FD2 FD3 FD4 FD5 decimal64
  frequencies = (rising (known tt) (known tt), known tt, falling (known tt) (known tt), falling (known tt) (known tt), rising (known tt) (known tt))

-- ---- the sums of six products with numbers of at most 15 million in size
abbrev pub Limited : Float → Type 0
Limited x = Bound 15_000_000 x

multiplier : (z : ℤ) → T (in_range z) → Bound 12 (whole z)
multiplier z h = number 12 z tt (range_size z h)

pub sum_bound : (k : Doodson) {x1 x2 x3 x4 x5 x6 : Float} → T (all_in_range k)
    → Limited x1 → Limited x2 → Limited x3 → Limited x4 → Limited x5 → Limited x6
    → Bound 1_080_000_000 (sum_of_products k (x1 ∷ x2 ∷ x3 ∷ x4 ∷ x5 ∷ x6 ∷ []))
unfolding sum_of_products
sum_bound k h x1 x2 x3 x4 x5 x6 =
    let e : Each k = each k h in
    added tt (added tt (added tt (added tt (added tt (added tt (known {B = 0} {x = zero64} tt)
    (multiplied tt (multiplier k.k1 e.k1) x1))
    (multiplied tt (multiplier k.k2 e.k2) x2))
    (multiplied tt (multiplier k.k3 e.k3) x3))
    (multiplied tt (multiplier k.k4 e.k4) x4))
    (multiplied tt (multiplier k.k5 e.k5) x5))
    (multiplied tt (multiplier k.k6 e.k6) x6)

pub zero_sum : {x1 x2 x3 x4 x5 x6 : Float}
    → Limited x1 → Limited x2 → Limited x3 → Limited x4 → Limited x5 → Limited x6
    → sum_of_products (doodson (pos 0) (pos 0) (pos 0) (pos 0) (pos 0) (pos 0)) (x1 ∷ x2 ∷ x3 ∷ x4 ∷ x5 ∷ x6 ∷ []) ≡ zero64
unfolding sum_of_products
zero_sum h1 h2 h3 h4 h5 h6 = rw (zero_product h1, zero_product h2, zero_product h3, zero_product h4, zero_product h5, zero_product h6)

-- six numbers, each of at most 15 million, and what follows for their sums
pub record Summed (xs : List Float) : Type 0 where
  pub x1 : Limited (get_or xs 0 zero64)
  pub x2 : Limited (get_or xs 1 zero64)
  pub x3 : Limited (get_or xs 2 zero64)
  pub x4 : Limited (get_or xs 3 zero64)
  pub x5 : Limited (get_or xs 4 zero64)
  pub x6 : Limited (get_or xs 5 zero64)
  pub most : (k : Doodson) → T (all_in_range k) → Bound 1_080_000_000 (sum_of_products k xs)
  pub zero : sum_of_products (doodson (pos 0) (pos 0) (pos 0) (pos 0) (pos 0) (pos 0)) xs ≡ zero64

pub summed : {x1 x2 x3 x4 x5 x6 : Float} → Limited x1 → Limited x2 → Limited x3 → Limited x4 → Limited x5 → Limited x6 → Summed (x1 ∷ x2 ∷ x3 ∷ x4 ∷ x5 ∷ x6 ∷ [])
summed x1 x2 x3 x4 x5 x6 = record {
  x1 = x1;
  x2 = x2;
  x3 = x3;
  x4 = x4;
  x5 = x5;
  x6 = x6;
  most = λ k h. sum_bound k h x1 x2 x3 x4 x5 x6;
  zero = zero_sum x1 x2 x3 x4 x5 x6;
}

-- ---- the Doodson arguments: each of the twelve is at most 15 million in size
pub record Bounds (a : Arguments) : Type 0 where
  pub degrees : Summed a.degrees
  pub cycles : Summed a.cycles

bounds_of : (f t : Float) → Bound 2 f → Bound 7 t → Bounds (arguments_of f t)
unfolding arguments_of
bounds_of f t hf ht =
    let F = delaunay ht in
    let d2 = added tt F.2 F.4 in
    let d3 = subtracted tt d2 F.3 in
    let FD = frequencies ht in
    let dd2 = added tt FD.2 FD.4 in
    let dd3 = subtracted tt dd2 FD.3 in
    record {
      degrees =
          summed
          (wide tt (subtracted tt (multiplied tt (number 360 (pos 360) tt (lit≤ tt)) hf) F.3))
          (wide tt d2)
          (wide tt d3)
          (wide tt (subtracted tt d2 F.0))
          (wide tt (negated F.4))
          (wide tt (subtracted tt d3 F.1));
      cycles =
          summed
          (wide tt (subtracted tt (number 1 (pos 1) tt (lit≤ tt)) FD.3))
          (wide tt dd2)
          (wide tt dd3)
          (wide tt (subtracted tt dd2 FD.0))
          (wide tt (negated FD.4))
          (wide tt (subtracted tt dd3 FD.1));
    }

pub bounds_at : (p : PhaseInstant) → Bounds (arguments_at p)
unfolding arguments_at
bounds_at p =
    let d = p.tt.day in
    let m = p.tt.micros in
    let a = (parts_accepted p).2 in
    let h = (accepted_at d m (day_index d) a).less in
    bounds_of _ _ (fraction_bound _ (omega (arith, utc_less p, h))) (centuries_bound _ _ (accepted_size d m a) (fraction_bound _ (omega (arith, utc_less p, h))))
