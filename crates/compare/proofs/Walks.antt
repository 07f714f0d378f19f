-- A walk, one step on: the first file's record where it is the earlier, or alone; the second's; or both; and the induction over these steps.
-- Assumes nothing.
use Prim.Native.Nat.{◌+◌, ◌≤◌}
use mathlib.Core.Path.{◌≡◌, refl}
use mathlib.Core.Bool.{Bool, true, false, cond}
use mathlib.Core.List.{List, [], ◌∷◌, ◌++◌}
use native.Mathlib.Omega.{arith}
use lib.Dec.{ltb}
use lib.ListN.{length, length-append}
use borrow.Author.Tests.{ltb-true, ltb-false, le-ltb}
use Rattle.record.specs.declared.Record.{Record}
use Rattle.files.specs.Files.{when, starts_after}
use Rattle.compare.specs.declared.Entry.{Entry}
use Rattle.compare.specs.declared.Side.TheVariants.{FirstOnly, SecondOnly}
use Rattle.compare.specs.Walk.{alone, same_numbers, changed, differing, walk}

pub walk_first : (r : Record) (rs qs : List Record) → starts_after (when r) qs ≡ true → walk (r ∷ rs) qs ≡ alone FirstOnly r ∷ walk rs qs
unfolding walk
walk_first r rs [] e = refl
walk_first r rs (q ∷ qs) e = rw e refl

pub walk_second : (q : Record) (rs qs : List Record) → starts_after (when q) rs ≡ true → walk rs (q ∷ qs) ≡ alone SecondOnly q ∷ walk rs qs
unfolding walk
walk_second q [] qs e = refl
walk_second q (r ∷ rs) qs e = rw (le-ltb (when r) (when q) (omega (arith, ltb-true (when q) (when r) e)), e) refl

pub walk_both : (r q : Record) (rs qs : List Record) → when r ≡ when q → walk (r ∷ rs) (q ∷ qs) ≡ differing r q ++ walk rs qs
unfolding walk
walk_both r q rs qs e = rw (le-ltb (when r) (when q) (omega (arith, e)), le-ltb (when q) (when r) (omega (arith, e))) refl

pub walk_none : walk [] [] ≡ []
unfolding walk
walk_none = refl

-- The induction behind every law of a walk: what holds of two empty files, and of one record more in the first, in the second, or in both.
pub walk_ind : (P : List Record → List Record → List Entry → Type 0)
    → P [] [] []
    → ((r : Record) (rs qs : List Record) (es : List Entry) → starts_after (when r) qs ≡ true → P rs qs es → P (r ∷ rs) qs (alone FirstOnly r ∷ es))
    → ((q : Record) (rs qs : List Record) (es : List Entry) → starts_after (when q) rs ≡ true → P rs qs es → P rs (q ∷ qs) (alone SecondOnly q ∷ es))
    → ((r q : Record) (rs qs : List Record) (es : List Entry) → when r ≡ when q → P rs qs es → P (r ∷ rs) (q ∷ qs) (differing r q ++ es))
    → (rs qs : List Record) → P rs qs (walk rs qs)
unfolding walk
walk_ind P none first second both [] [] = none
walk_ind P none first second both (r ∷ rs) [] = first r rs [] (walk rs []) refl (walk_ind P none first second both rs [])
walk_ind P none first second both [] (q ∷ qs) = second q [] qs (walk [] qs) refl (walk_ind P none first second both [] qs)
walk_ind P none first second both (r ∷ rs) (q ∷ qs) =
    by (ltb (when r) (when q)) refl (ltb (when q) (when r)) refl
    (walk_ind P none first second both rs (q ∷ qs)) (walk_ind P none first second both (r ∷ rs) qs) (walk_ind P none first second both rs qs)
  where
    by : (x : Bool) → ltb (when r) (when q) ≡ x → (y : Bool) → ltb (when q) (when r) ≡ y
        → P rs (q ∷ qs) (walk rs (q ∷ qs)) → P (r ∷ rs) qs (walk (r ∷ rs) qs) → P rs qs (walk rs qs)
        → P (r ∷ rs) (q ∷ qs) (cond x (alone FirstOnly r ∷ walk rs (q ∷ qs)) (cond y (alone SecondOnly q ∷ walk (r ∷ rs) qs) (differing r q ++ walk rs qs)))
    by true d y e a b c = first r rs (q ∷ qs) _ d a
    by false d true e a b c = second q (r ∷ rs) qs _ e b
    by false d false e a b c = both r q rs qs _ (omega (arith, ltb-false (when r) (when q) d, ltb-false (when q) (when r) e)) c

-- of two records at most one entry
pub few_differing : (r q : Record) → length (differing r q) ≤ 1
few_differing r q = by (same_numbers r q)
  where
    by : (b : Bool) → length (cond b [] (changed r q ∷ [])) ≤ 1
    by true = omega arith
    by false = omega arith

-- at most one entry for a record
pub walk_few : (rs qs : List Record) → length (walk rs qs) ≤ length rs + length qs
walk_few = walk_ind (λ rs qs es. length es ≤ length rs + length qs)
    (omega arith)
    (λ r rs qs es _ h. omega arith)
    (λ q rs qs es _ h. omega arith)
    (λ r q rs qs es _ h. omega (arith, length-append (differing r q) es, few_differing r q))
