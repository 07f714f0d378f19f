-- What is interpolated of the rows' uncertainties is above 0. Between two rows a and b it is the sum of two products, each row's uncertainty times how far x
-- is from the other's date; the first is above 0, since a's uncertainty is and x is before b.
-- Assumes nothing.
use mathlib.Core.Path.{◌≡◌, sym, ◌∙◌, ap, subst}
use mathlib.Core.List.{List}
use Prim.Native.Nat.{ℕ, ◌+◌, ◌*◌, ◌-◌, ◌≤◌, ◌<◌}
use native.Mathlib.Nat as N
use native.Mathlib.Omega.{arith}
use lib.Dec.{lit≤, lt→ltb}
use lib.IntN.{ℤ, pos, ◌+ℤ◌, ◌-ℤ◌, ◌*ℤ◌}
use lib.Signed.{◌<ℤ◌, lt_z_yes}
use Rattle.algebra.proofs.Ring.{end, ◌▸◌, ring, quote}
use Rattle.rows.specs.declared.Row.{Row}
use Rattle.rows.specs.declared.Place.{Place}
use Rattle.rows.specs.declared.Place.TheVariants.{End, Between}
use Rattle.rows.specs.Table.{AcceptedTable}
use Rattle.rows.specs.BuiltIn.{built_in}
use Rattle.rows.specs.Places.{row_moment, place, span, parts, interpolated}
use Rattle.rows.specs.Claims.{interpolated_uncertainty}
use Rattle.rows.specs.Inner.{Inside, Placed}
use Rattle.rows.proofs.Accepted.{built_in_accepted}
use Rattle.rows.proofs.Places.{placed}

-- ---- at a place

pub parts_positive : (p : Place) (x : ℕ) → Placed p x → 0 < parts p
unfolding parts span
parts_positive (End r) x h = lit≤ tt
parts_positive (Between a b) x h = apart (row_moment a) (row_moment b) h.2.low h.2.high
  where
    apart : (a b : ℕ) → a ≤ x → x < b → 0 < b - a
    apart a b h k = omega arith

-- from c to d, n of w on the way: c times the rest of the way, and d times what is done of it
pub on_the_way : (c d : ℤ) (w n : ℕ) → n ≤ w → c *ℤ pos w +ℤ (d -ℤ c) *ℤ pos n ≡ c *ℤ pos (w - n) +ℤ d *ℤ pos n
on_the_way c d w n h = ap (λ (k : ℕ). c *ℤ pos k +ℤ (d -ℤ c) *ℤ pos n) (sym (N.sub-add_cancel h)) ∙ alg c d (pos (w - n)) (pos n)
  where
    alg : (c d r n : ℤ) → c *ℤ (r +ℤ n) +ℤ (d -ℤ c) *ℤ n ≡ c *ℤ r +ℤ d *ℤ n
    alg c d r n = ring (c ▸ d ▸ r ▸ n ▸ end) (search quote depth 13) tt

-- between two rows each one's uncertainty counts by how far x is from the other's date
pub weighted : (a b : Row) (x : ℕ) → Inside a b x
    → interpolated_uncertainty (Between a b) x ≡ pos (a.uncertainty * (row_moment b - x) + b.uncertainty * (x - row_moment a))
unfolding interpolated span
weighted a b x h = go (row_moment a) (row_moment b) h.low h.high
  where
    u : ℕ
    u = a.uncertainty

    v : ℕ
    v = b.uncertainty

    go : (s t : ℕ) → s ≤ x → x < t → pos u *ℤ pos (t - s) +ℤ (pos v -ℤ pos u) *ℤ pos (x - s) ≡ pos (u * (t - x) + v * (x - s))
    go s t h k = on_the_way (pos u) (pos v) (t - s) (x - s) (omega arith) ∙ ap (λ (n : ℕ). pos (u * n + v * (x - s))) (omega arith)

-- at an end it is the row's own; between two rows the first product is above 0
pub above : (p : Place) (x : ℕ) → Placed p x → pos 0 <ℤ interpolated_uncertainty p x
unfolding interpolated
above (End r) x h = lt_z_yes (lt→ltb 0 r.uncertainty h.uncertainty_positive)
above (Between a b) x h = subst (λ (z : ℤ). pos 0 <ℤ z) (sym (weighted a b x h.2)) (lt_z_yes (lt→ltb 0 _ first))
  where
    left : (b : ℕ) → x < b → 0 < b - x
    left b h = omega arith

    first : 0 < a.uncertainty * (row_moment b - x) + b.uncertainty * (x - row_moment a)
    first = N.lt_of_lt_of_le (N.mul-pos h.0.uncertainty_positive (left (row_moment b) h.2.high)) (N.le-add_right _ _)

-- ---- of a table

-- PROMISE. In any accepted table what is interpolated of the uncertainties is above 0 at every moment, numerator and denominator, so never negative.
pub uncertainty_above : (rows : List Row) → AcceptedTable rows → (x : ℕ) → (pos 0 <ℤ interpolated_uncertainty (place rows x) x) × (0 < parts (place rows x))
uncertainty_above rows a x = let p = placed rows a x in (above (place rows x) x p, parts_positive (place rows x) x p)

-- PROMISE. And so it is in the built-in rows.
pub built_in_above : (x : ℕ) → (pos 0 <ℤ interpolated_uncertainty (place built_in x) x) × (0 < parts (place built_in x))
built_in_above = uncertainty_above built_in built_in_accepted
