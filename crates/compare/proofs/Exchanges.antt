-- Two files exchanged, by induction over the walk: it goes on in the same way, with the sides exchanged and the differences negated. And two files with the
-- same records: nothing is listed of them, and where nothing is listed they are the same. Assumes nothing.
use Prim.Native.Nat.{ℕ}
use mathlib.Core.Path.{◌≡◌, refl, ap, ap₂, sym, ◌∙◌}
use mathlib.Core.Bool.{Bool, true, false, cond, ◌&&◌}
use mathlib.Core.List.{List, [], ◌∷◌, ◌++◌, map}
use lib.IntN.{ℤ, neg_ℤ, ◌-ℤ◌}
use Rattle.algebra.proofs.Ring.{end, ◌▸◌, ring, quote}
use Rattle.instants.proofs.Impossible.{impossible}
use Rattle.record.specs.declared.Record.{Record}
use Rattle.record.specs.Records.{record_with}
use Rattle.files.specs.Claims.{Each, AcceptedRecord}
use Rattle.instants.proofs.Order.{moment_one}
use Rattle.files.proofs.Records.{both}
use Rattle.compare.specs.declared.Entry.{Entry}
use Rattle.compare.specs.declared.Side.TheVariants.{FirstOnly, SecondOnly}
use Rattle.compare.specs.Walk.{alone, changed, equal, same_numbers, differing, walk}
use Rattle.compare.specs.Claims.{exchanged}
use Rattle.compare.proofs.Numbers.{equal_same, equal_is, equal_exchanged}
use Rattle.compare.proofs.Walks.{walk_first, walk_second, walk_both, walk_none, walk_ind}

-- ---- exchanged

negated : (a b : ℤ) → neg_ℤ (b -ℤ a) ≡ a -ℤ b
negated a b = ring (a ▸ b ▸ end) (search quote depth 13) tt

same_exchanged : (r q : Record) → same_numbers q r ≡ same_numbers r q
same_exchanged r q = ap₂ ◌&&◌ (ap₂ ◌&&◌ (equal_exchanged q.ut1 r.ut1) (equal_exchanged q.lod r.lod)) (equal_exchanged q.rate r.rate)

-- two records of one instant
differing_exchanged : (r q : Record) → r.day ≡ q.day → r.micros ≡ q.micros → differing q r ≡ map exchanged (differing r q)
differing_exchanged r q d m = rw (same_exchanged r q) (by (same_numbers r q))
  where
    by : (b : Bool) → cond b [] (changed q r ∷ []) ≡ map exchanged (cond b [] (changed r q ∷ []))
    by true = refl
    by false = rw (d, m, negated r.ut1 q.ut1, negated r.lod q.lod, negated r.rate q.rate) refl

append_exchanged : (es fs : List Entry) → map exchanged (es ++ fs) ≡ map exchanged es ++ map exchanged fs
append_exchanged [] fs = refl
append_exchanged (e ∷ es) fs = ap (λ (l : List Entry). exchanged e ∷ l) (append_exchanged es fs)

-- PROMISE. Exchanged files give the same entries with sides exchanged and differences negated.
pub walk_exchanged : (rs qs : List Record) → Each AcceptedRecord rs → Each AcceptedRecord qs → walk qs rs ≡ map exchanged (walk rs qs)
walk_exchanged = walk_ind (λ rs qs es. Each AcceptedRecord rs → Each AcceptedRecord qs → walk qs rs ≡ map exchanged es)
    (λ _ _. walk_none)
    (λ r rs qs es a f g h. walk_second r qs rs a ∙ ap (λ (l : List Entry). alone SecondOnly r ∷ l) (f g.1 h))
    (λ q rs qs es a f g h. walk_first q qs rs a ∙ ap (λ (l : List Entry). alone FirstOnly q ∷ l) (f g h.1))
    (λ r q rs qs es w f g h.
    let i = moment_one r.day r.micros q.day q.micros g.0 h.0 w in
    walk_both q r qs rs (sym w) ∙ (ap₂ ◌++◌ (differing_exchanged r q i.0 i.1) (f g.1 h.1) ∙ sym (append_exchanged (differing r q) es)))

-- ---- the same records

numbers_same : (r : Record) → same_numbers r r ≡ true
numbers_same r = rw (equal_same r.ut1, equal_same r.lod, equal_same r.rate) refl

-- PROMISE. Nothing is listed of a file and itself.
pub walk_same : (rs : List Record) → walk rs rs ≡ []
walk_same [] = walk_none
walk_same (r ∷ rs) = walk_both r r rs rs refl ∙ rw (numbers_same r) (walk_same rs)

-- a record is its instant and its numbers
alike : (r q : Record) → r.day ≡ q.day → r.micros ≡ q.micros → same_numbers r q ≡ true → r ≡ q
alike r q d m e =
    let b = both (equal r.ut1 q.ut1 && equal r.lod q.lod) (equal r.rate q.rate) e in
    let c = both (equal r.ut1 q.ut1) (equal r.lod q.lod) b.0 in
    fields r.day q.day r.micros q.micros r.ut1 q.ut1 r.lod q.lod r.rate q.rate d m (equal_is _ _ c.0) (equal_is _ _ c.1) (equal_is _ _ b.1)
  where
    fields : (d d' : ℤ) (m m' : ℕ) (x x' y y' z z' : ℤ) → d ≡ d' → m ≡ m' → x ≡ x' → y ≡ y' → z ≡ z' → record_with d m x y z ≡ record_with d' m' x' y' z'
    fields d d' m m' x x' y y' z z' p q u v w = rw (p, q, u, v, w) refl

-- PROMISE. Files of which nothing is listed have the same records.
pub walk_empty : (rs qs : List Record) → Each AcceptedRecord rs → Each AcceptedRecord qs → walk rs qs ≡ [] → rs ≡ qs
walk_empty = walk_ind (λ rs qs es. Each AcceptedRecord rs → Each AcceptedRecord qs → es ≡ [] → rs ≡ qs)
    (λ _ _ _. refl)
    (λ r rs qs es a f g h e. impossible (cc))
    (λ q rs qs es a f g h e. impossible (cc))
    (λ r q rs qs es w f g h e.
    let i = moment_one r.day r.micros q.day q.micros g.0 h.0 w in
    empty r q rs qs es (same_numbers r q) refl i.0 i.1 (f g.1 h.1) e)
  where
    empty : (r q : Record) (rs qs : List Record) (es : List Entry) (b : Bool) → same_numbers r q ≡ b → r.day ≡ q.day → r.micros ≡ q.micros → (es ≡ [] → rs ≡ qs)
        → cond b [] (changed r q ∷ []) ++ es ≡ [] → r ∷ rs ≡ q ∷ qs
    empty r q rs qs es true n d m f e = ap₂ (λ (x : Record) (l : List Record). x ∷ l) (alike r q d m n) (f e)
    empty r q rs qs es false n d m f e = impossible (cc)
