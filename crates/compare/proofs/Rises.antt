-- The entries of two files rise as their records do: those of a record start where it stands, and those behind it later. So each entry is the one that is
-- found at its instant. Assumes nothing.
use Prim.Native.Nat.{ℕ, zero, suc, ◌≤◌, ◌<◌}
use mathlib.Core.Path.{◌≡◌, refl, ap, ap₂, sym, ◌∙◌}
use mathlib.Core.Bool.{Bool, true, false, cond, ◌&&◌, ◌||◌}
use mathlib.Core.List.{List, [], ◌∷◌, ◌++◌, map}
use native.Mathlib.Omega.{arith}
use lib.Dec.{ltb}
use lib.IntN.{pos}
use lib.ListN.{drop}
use lib.Seq.{drop-nil}
use lib.Signed.{lt_z, le_z}
use borrow.Author.Tests.{ltb-true}
use Rattle.instants.specs.Moments.{moment_of}
use Rattle.instants.proofs.Impossible.{impossible}
use Rattle.record.specs.declared.Record.{Record}
use Rattle.record.specs.Records.{record_with}
use Rattle.files.specs.Files.{when, starts_after, rises}
use Rattle.files.proofs.Records.{both, in_order}
use Rattle.compare.specs.declared.Entry.{Entry}
use Rattle.compare.specs.declared.Side.TheVariants.{FirstOnly, SecondOnly}
use Rattle.compare.specs.Walk.{alone, changed, same_numbers, walk}
use Rattle.compare.specs.Claims.{There, one_instant, entry_of_instant}
use Rattle.compare.proofs.AtInstants.{Rising, rising_rest, rising_after, earlier_too, one_is, one_same}
use Rattle.compare.proofs.Walks.{walk_ind}

-- an entry's instant, as that of a record of zeros
abbrev bare : Entry → Record
bare e = record_with e.day e.micros (pos 0) (pos 0) (pos 0)

-- entries rise, and start after every moment that both files start after
record Risen (rs qs : List Record) (es : List Entry) : Type 0 where
  all : Rising (map bare es)
  after : (t : ℕ) → starts_after t rs ≡ true → starts_after t qs ≡ true → starts_after t (map bare es) ≡ true

-- one more in front
risen_more : (r : Record) (es : List Record) → starts_after (when r) es ≡ true → Rising es → Rattle.files.specs.Claims.AcceptedRecord r → Rising (r ∷ es)
risen_more r es a h b = record { order = rw a h.order; accepted = (b, h.accepted) }

risen : (rs qs : List Record) → Rising rs → Rising qs → Risen rs qs (walk rs qs)
risen = walk_ind (λ rs qs es. Rising rs → Rising qs → Risen rs qs es)
    (λ _ _. record { all = record { order = refl; accepted = tt }; after = λ t a b. refl })
    (λ r rs qs es a f g h.
    let k = f (rising_rest r rs g) h in
    record { all = risen_more (bare (alone FirstOnly r)) (map bare es) (k.after (when r) (rising_after r rs g) a) k.all g.accepted.0; after = λ t x y. x })
    (λ q rs qs es a f g h.
    let k = f g (rising_rest q qs h) in
    record { all = risen_more (bare (alone SecondOnly q)) (map bare es) (k.after (when q) a (rising_after q qs h)) k.all h.accepted.0; after = λ t x y. y })
    (λ r q rs qs es w f g h. both_risen r q rs qs es (same_numbers r q) w g h (f (rising_rest r rs g) (rising_rest q qs h)))
  where
    -- behind both records
    later : (r q : Record) (rs qs : List Record) (es : List Entry) → when r ≡ when q → Rising (r ∷ rs) → Rising (q ∷ qs) → Risen rs qs es → (t : ℕ) → t ≤ when r → starts_after t (map bare es) ≡ true
    later r q rs qs es w g h k t l = k.after t (earlier_too t (when r) rs l (rising_after r rs g)) (earlier_too t (when q) qs (omega (arith, l, w)) (rising_after q qs h))

    both_risen : (r q : Record) (rs qs : List Record) (es : List Entry) (b : Bool) → when r ≡ when q → Rising (r ∷ rs) → Rising (q ∷ qs) → Risen rs qs es → Risen (r ∷ rs) (q ∷ qs) (cond b [] (changed r q ∷ []) ++ es)
    both_risen r q rs qs es true w g h k = record { all = k.all; after = λ t x y. later r q rs qs es w g h k t (omega (arith, ltb-true t (when r) x)) }
    both_risen r q rs qs es false w g h k = record {
      all = risen_more (bare (changed r q)) (map bare es) (later r q rs qs es w g h k (when r) (omega arith)) k.all g.accepted.0;
      after = λ t x y. x;
    }

-- a part of a list, as records
drop_bare : (k : ℕ) (es : List Entry) → drop k (map bare es) ≡ map bare (drop k es)
drop_bare zero es = refl
drop_bare (suc k) [] = refl
drop_bare (suc k) (e ∷ es) = drop_bare k es

module _ (rs qs : List Record) (g : Rising rs) (h : Rising qs) where
  -- PROMISE. The entries are in the order of their instants.
  pub walk_in_order : (k : ℕ) (e f : Entry) (more : List Entry) → drop k (walk rs qs) ≡ e ∷ f ∷ more
      → (lt_z e.day f.day || (le_z e.day f.day && ltb e.micros f.micros)) ≡ true
  walk_in_order k e f more p =
      let a = (risen rs qs g h).all in
      in_order (map bare (walk rs qs)) a.order a.accepted k (bare e) (bare f) (map bare more) (drop_bare k (walk rs qs) ∙ ap (map bare) p)

-- what is behind a moment is of a later one
later_moment : (t : ℕ) (es : List Entry) → starts_after t (map bare es) ≡ true → rises (map bare es) ≡ true → (k : ℕ) (e : Entry) (more : List Entry) → drop k es ≡ e ∷ more → t < when (bare e)
later_moment t [] a b k e more p = impossible (let v : ◌≡◌ {A = List Entry} [] (e ∷ more) = sym (drop-nil k) ∙ p in let z : ◌≡◌ {A = ℕ} 0 1 = cc in z)
later_moment t (f ∷ es) a b zero e more p = let q : f ≡ e = cc in omega (arith, ltb-true t (when (bare f)) a, ap (λ (x : Entry). when (bare x)) q)
later_moment t (f ∷ es) a b (suc k) e more p =
    let c = both (starts_after (when (bare f)) (map bare es)) (rises (map bare es)) b in
    omega (arith, ltb-true t (when (bare f)) a, later_moment (when (bare f)) es c.0 c.1 k e more p)

-- so an entry is found at its instant
found_at : (es : List Entry) → rises (map bare es) ≡ true → (k : ℕ) (e : Entry) (more : List Entry) → drop k es ≡ e ∷ more → entry_of_instant e.day e.micros es ≡ There e
found_at [] b k e more p = impossible (let v : ◌≡◌ {A = List Entry} [] (e ∷ more) = sym (drop-nil k) ∙ p in let z : ◌≡◌ {A = ℕ} 0 1 = cc in z)
found_at (f ∷ es) b zero e more p = let q : f ≡ e = cc in rw q (rw (one_same e.day e.micros) refl)
found_at (f ∷ es) b (suc k) e more p =
    let c = both (starts_after (when (bare f)) (map bare es)) (rises (map bare es)) b in
    by (one_instant e.day e.micros f.day f.micros) refl (later_moment (when (bare f)) es c.0 c.1 k e more p) (found_at es c.1 k e more p)
  where
    by : (x : Bool) → one_instant e.day e.micros f.day f.micros ≡ x → when (bare f) < when (bare e) → entry_of_instant e.day e.micros es ≡ There e
        → cond x (There f) (entry_of_instant e.day e.micros es) ≡ There e
    by true o l q = let i = one_is e.day e.micros f.day f.micros o in absurd (omega (arith, l, ap₂ moment_of i.0 i.1))
    by false o l q = q

-- PROMISE. Each entry is the one at its instant.
pub each_found : (rs qs : List Record) → Rising rs → Rising qs → (k : ℕ) (e : Entry) (more : List Entry) → drop k (walk rs qs) ≡ e ∷ more
    → entry_of_instant e.day e.micros (walk rs qs) ≡ There e
each_found rs qs g h = found_at (walk rs qs) (risen rs qs g h).all.order
