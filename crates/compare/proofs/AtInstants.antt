-- What is listed at an instant: by induction over the walk. In a rising file no record behind a moment is of an earlier instant or of that one; two records
-- of one moment are of one instant. Assumes nothing.
use Prim.Native.Nat.{ℕ, ◌≤◌, ◌<◌}
use mathlib.Core.Path.{◌≡◌, refl, ap, ap₂, sym, ◌∙◌}
use mathlib.Core.Bool.{Bool, true, false, cond}
use mathlib.Core.List.{List, [], ◌∷◌, ◌++◌}
use native.Mathlib.Omega.{arith}
use lib.Dec.{eqb}
use lib.IntN.{ℤ}
use borrow.Author.Tests.{eqb-true, eq-eqb, ltb-true, lt-ltb}
use Rattle.instants.specs.Moments.{moment_of}
use Rattle.record.specs.declared.Record.{Record}
use Rattle.files.specs.Files.{when, starts_after, rises}
use Rattle.files.specs.Claims.{Each, AcceptedRecord}
use Rattle.instants.proofs.Order.{moment_one}
use Rattle.files.proofs.Records.{both}
use Rattle.compare.specs.declared.Entry.{Entry}
use Rattle.compare.specs.declared.Side.TheVariants.{FirstOnly, SecondOnly}
use Rattle.compare.specs.Walk.{alone, changed, equal, same_numbers, differing, walk}
use Rattle.compare.specs.Claims.{Search, There, Nowhere, one_instant, record_of_instant, entry_of_instant}
use Rattle.compare.proofs.Numbers.{equal_same, equal_is}
use Rattle.compare.proofs.Walks.{walk_ind}

-- ---- instants

pub one_is : (d : ℤ) (m : ℕ) (e : ℤ) (n : ℕ) → one_instant d m e n ≡ true → (d ≡ e) × (m ≡ n)
one_is d m e n h = let b = both (equal d e) (eqb m n) h in (equal_is d e b.0, eqb-true m n b.1)

pub one_same : (d : ℤ) (m : ℕ) → one_instant d m d m ≡ true
one_same d m = rw (equal_same d, eq-eqb m m refl) refl

-- ---- files

-- records of a file, or the last of them: their instants rise and are accepted
pub record Rising (rs : List Record) : Type 0 where
  pub order : rises rs ≡ true
  pub accepted : Each AcceptedRecord rs

pub rising_rest : (r : Record) (rs : List Record) → Rising (r ∷ rs) → Rising rs
rising_rest r rs h = record { order = (both (starts_after (when r) rs) (rises rs) h.order).1; accepted = h.accepted.1 }

pub rising_after : (r : Record) (rs : List Record) → Rising (r ∷ rs) → starts_after (when r) rs ≡ true
rising_after r rs h = (both (starts_after (when r) rs) (rises rs) h.order).0

-- what starts after a moment starts after every earlier one
pub earlier_too : (t u : ℕ) (rs : List Record) → t ≤ u → starts_after u rs ≡ true → starts_after t rs ≡ true
earlier_too t u [] l h = refl
earlier_too t u (r ∷ rs) l h = lt-ltb t (when r) (omega (arith, ltb-true u (when r) h))

-- no record behind the moment t is of an instant that is not after t
absent : (d : ℤ) (m t : ℕ) → moment_of d m ≤ t → (rs : List Record) → starts_after t rs ≡ true → rises rs ≡ true → record_of_instant d m rs ≡ Nowhere
absent d m t l [] a h = refl
absent d m t l (r ∷ rs) a h =
    let u : t < when r = ltb-true t (when r) a in
    let b = both (starts_after (when r) rs) (rises rs) h in
    by (one_instant d m r.day r.micros) refl u (absent d m (when r) (omega (arith, u)) rs b.0 b.1)
  where
    by : (x : Bool) → one_instant d m r.day r.micros ≡ x → t < when r → record_of_instant d m rs ≡ Nowhere → cond x (There r) (record_of_instant d m rs) ≡ Nowhere
    by true e u f = let i = one_is d m r.day r.micros e in absurd (omega (arith, u, l, ap₂ moment_of i.0 i.1))
    by false e u f = f

-- ---- the rule at an instant

-- what is listed of what two files have there
abbrev pub rule_of : Search Record → Search Record → Search Entry
rule_of Nowhere Nowhere = Nowhere
rule_of (There r) Nowhere = There (alone FirstOnly r)
rule_of Nowhere (There q) = There (alone SecondOnly q)
rule_of (There r) (There q) = cond (same_numbers r q) Nowhere (There (changed r q))

module _ (d : ℤ) (m : ℕ) where
  abbrev Ruled : List Record → List Record → List Entry → Type 0
  Ruled rs qs es = Rising rs → Rising qs → entry_of_instant d m es ≡ rule_of (record_of_instant d m rs) (record_of_instant d m qs)

  -- a record more in the first file
  one_more : (r : Record) (rs qs : List Record) (es : List Entry) → starts_after (when r) qs ≡ true → Ruled rs qs es → Ruled (r ∷ rs) qs (alone FirstOnly r ∷ es)
  one_more r rs qs es a f g h = by (one_instant d m r.day r.micros) refl
    where
      by : (x : Bool) → one_instant d m r.day r.micros ≡ x
          → cond x (There (alone FirstOnly r)) (entry_of_instant d m es) ≡ rule_of (cond x (There r) (record_of_instant d m rs)) (record_of_instant d m qs)
      by true e =
          let i = one_is d m r.day r.micros e in
          sym (ap (λ (y : Search Record). rule_of (There r) y) (absent d m (when r) (omega (arith, ap₂ moment_of i.0 i.1)) qs a h.order))
      by false e = f (rising_rest r rs g) h

  -- in the second
  other_more : (q : Record) (rs qs : List Record) (es : List Entry) → starts_after (when q) rs ≡ true → Ruled rs qs es → Ruled rs (q ∷ qs) (alone SecondOnly q ∷ es)
  other_more q rs qs es a f g h = by (one_instant d m q.day q.micros) refl
    where
      by : (x : Bool) → one_instant d m q.day q.micros ≡ x
          → cond x (There (alone SecondOnly q)) (entry_of_instant d m es) ≡ rule_of (record_of_instant d m rs) (cond x (There q) (record_of_instant d m qs))
      by true e =
          let i = one_is d m q.day q.micros e in
          sym (ap (λ (y : Search Record). rule_of y (There q)) (absent d m (when q) (omega (arith, ap₂ moment_of i.0 i.1)) rs a g.order))
      by false e = f g (rising_rest q qs h)

  -- in both
  both_more : (r q : Record) (rs qs : List Record) (es : List Entry) → when r ≡ when q → Ruled rs qs es → Ruled (r ∷ rs) (q ∷ qs) (differing r q ++ es)
  both_more r q rs qs es w f g h =
      let i = moment_one r.day r.micros q.day q.micros g.accepted.0 h.accepted.0 w in
      by (one_instant d m r.day r.micros) refl (same_numbers r q) refl (ap₂ (one_instant d m) (sym i.0) (sym i.1))
    where
      by : (x : Bool) → one_instant d m r.day r.micros ≡ x → (y : Bool) → same_numbers r q ≡ y → one_instant d m q.day q.micros ≡ one_instant d m r.day r.micros
          → entry_of_instant d m (cond y [] (changed r q ∷ []) ++ es) ≡ rule_of (cond x (There r) (record_of_instant d m rs)) (cond (one_instant d m q.day q.micros) (There q) (record_of_instant d m qs))
      by true e true n o =
          let i = one_is d m r.day r.micros e in
          let a = absent d m (when r) (omega (arith, ap₂ moment_of i.0 i.1)) rs (rising_after r rs g) (rising_rest r rs g).order in
          let b = absent d m (when q) (omega (arith, ap₂ moment_of i.0 i.1, w)) qs (rising_after q qs h) (rising_rest q qs h).order in
          f (rising_rest r rs g) (rising_rest q qs h) ∙ (ap₂ rule_of a b ∙ sym (rw (o ∙ e, n) refl))
      by true e false n o = rw (e, o ∙ e, n) refl
      by false e true n o = rw (o ∙ e) (f (rising_rest r rs g) (rising_rest q qs h))
      by false e false n o = rw (e, o ∙ e) (f (rising_rest r rs g) (rising_rest q qs h))

  -- PROMISE. What is listed at an instant is what the rule says of the records of that instant.
  pub listed_at : (rs qs : List Record) → Rising rs → Rising qs → entry_of_instant d m (walk rs qs) ≡ rule_of (record_of_instant d m rs) (record_of_instant d m qs)
  listed_at = walk_ind Ruled (λ g h. refl) one_more other_more both_more
