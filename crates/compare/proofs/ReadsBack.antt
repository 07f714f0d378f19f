-- Entries read back from their bytes: each number fits its field, differences since they are of numbers of 32 bits. Assumes nothing.
use Prim.Native.Nat.{ℕ, suc, ◌^◌, ◌<◌}
use mathlib.Core.Path.{◌≡◌, refl, ap, ap₂, ◌∙◌}
use mathlib.Core.Bool.{Bool, true, false, cond}
use mathlib.Core.List.{List, [], ◌∷◌, ◌++◌, append_assoc}
use native.Mathlib.Omega.{arith}
use lib.IntN.{ℤ}
use lib.ListN.{length, drop}
use lib.Seq.{drop_at}
use Rattle.bigendian.proofs.Fields.{number_back, signed_back}
use Rattle.bigendian.proofs.Signs.{FitsBytes}
use Rattle.instants.specs.Instants.{day_index}
use Rattle.instants.proofs.Accepted.{accepted_at}
use Rattle.record.specs.declared.Record.{Record}
use Rattle.bigendian.specs.Fields.{field_at, signed_at}
use Rattle.files.specs.Claims.{Each, AcceptedRecord, Fitting}
use Rattle.compare.specs.declared.Entry.{Entry}
use Rattle.compare.specs.declared.Side.{Side}
use Rattle.compare.specs.declared.Side.TheVariants.{FirstOnly, SecondOnly, InBoth}
use Rattle.compare.specs.Walk.{side_number, side_of, alone, changed, same_numbers, walk}
use Rattle.compare.specs.Compare.{entry_length, side_field, day_field, micros_field, ut1_field, lod_field, rate_field, entry_bytes, list_bytes}
use Rattle.compare.specs.Claims.{is_side, entry_in, listed}
use Rattle.compare.proofs.Entries.{entry_length_lem}
use Rattle.compare.proofs.Numbers.{difference_fits}
use Rattle.compare.proofs.Walks.{walk_ind}

-- ---- a side's number is one byte, and tells the side

side_fits : (s : Side) → side_number s < 256 ^ 1
side_fits FirstOnly = omega arith
side_fits SecondOnly = omega arith
side_fits InBoth = omega arith

side_known : (s : Side) → side_of (side_number s) ≡ s
side_known FirstOnly = refl
side_known SecondOnly = refl
side_known InBoth = refl

side_is : (s : Side) → is_side (side_number s) ≡ true
side_is FirstOnly = refl
side_is SecondOnly = refl
side_is InBoth = refl

-- ---- an entry whose numbers fit their fields

record FittingEntry (e : Entry) : Type 0 where
  day : FitsBytes 4 e.day
  micros : e.micros < 256 ^ 8
  ut1 : FitsBytes 8 e.ut1
  lod : FitsBytes 8 e.lod
  rate : FitsBytes 8 e.rate

module _ (e : Entry) (t : List ℕ) (f : FittingEntry e) where
  abbrev l : List ℕ
  l = entry_bytes e ++ t

  side_read : field_at l side_field ≡ side_number e.side
  unfolding entry_bytes
  side_read = number_back l side_field _ (record { starts = refl; is = refl }) (side_fits e.side)

  side_back : side_of (field_at l side_field) ≡ e.side
  side_back = ap side_of side_read ∙ side_known e.side

  side_there : is_side (field_at l side_field) ≡ true
  side_there = ap is_side side_read ∙ side_is e.side

  day_back : signed_at l day_field ≡ e.day
  unfolding entry_bytes
  day_back = signed_back l day_field e.day (record { starts = refl; is = refl }) f.day

  micros_back : field_at l micros_field ≡ e.micros
  unfolding entry_bytes
  micros_back = number_back l micros_field _ (record { starts = refl; is = refl }) f.micros

  ut1_back : signed_at l ut1_field ≡ e.ut1
  unfolding entry_bytes
  ut1_back = signed_back l ut1_field e.ut1 (record { starts = refl; is = refl }) f.ut1

  lod_back : signed_at l lod_field ≡ e.lod
  unfolding entry_bytes
  lod_back = signed_back l lod_field e.lod (record { starts = refl; is = refl }) f.lod

  rate_back : signed_at l rate_field ≡ e.rate
  unfolding entry_bytes
  rate_back = signed_back l rate_field e.rate (record { starts = refl; is = refl }) f.rate

  entry_back : entry_in l ≡ e
  entry_back = fields _ _ _ _ _ _ _ _ _ _ _ _ side_back day_back micros_back ut1_back lod_back rate_back
    where
      made : Side → ℤ → ℕ → (x y z : ℤ) → Entry
      made s d m x y z = record { side = s; day = d; micros = m; ut1 = x; lod = y; rate = z }

      fields : (s s' : Side) (d d' : ℤ) (m m' : ℕ) (x x' y y' z z' : ℤ) → s ≡ s' → d ≡ d' → m ≡ m' → x ≡ x' → y ≡ y' → z ≡ z' → made s d m x y z ≡ made s' d' m' x' y' z'
      fields s s' d d' m m' x x' y y' z z' o p q u v w = rw (o, p, q, u, v, w) refl

-- entries, one behind the other, with anything behind them
list_back : (es : List Entry) (t : List ℕ) → Each FittingEntry es → listed (length es) (list_bytes es ++ t) ≡ es
list_back [] t h = refl
list_back (e ∷ es) t h =
    ap (listed (suc (length es))) (append_assoc (entry_bytes e) (list_bytes es) t)
    ∙ (ap (λ (b : Bool). cond b (entry_in (entry_bytes e ++ (list_bytes es ++ t)) ∷ listed (length es) (drop entry_length (entry_bytes e ++ (list_bytes es ++ t)))) []) (side_there e (list_bytes es ++ t) h.0)
    ∙ ap₂ (λ (x : Entry) (xs : List Entry). x ∷ xs) (entry_back e (list_bytes es ++ t) h.0)
    (ap (listed (length es)) (drop_at (entry_bytes e) (list_bytes es ++ t) entry_length (entry_length_lem e)) ∙ list_back es t h.1))

-- ---- the entries of a walk

alone_fits : (side : Side) (r : Record) → AcceptedRecord r → Fitting r → FittingEntry (alone side r)
alone_fits side r a f = record {
  day = omega (arith, f.day.sfits);
  micros = omega (arith, (accepted_at r.day r.micros (day_index r.day) a).less);
  ut1 = omega arith;
  lod = omega arith;
  rate = omega arith;
}

changed_fits : (r q : Record) → AcceptedRecord r → Fitting r → Fitting q → FittingEntry (changed r q)
changed_fits r q a f g = record {
  day = omega (arith, f.day.sfits);
  micros = omega (arith, (accepted_at r.day r.micros (day_index r.day) a).less);
  ut1 = omega (arith, (difference_fits r.ut1 q.ut1 f.ut1 g.ut1).sfits);
  lod = omega (arith, (difference_fits r.lod q.lod f.lod g.lod).sfits);
  rate = omega (arith, (difference_fits r.rate q.rate f.rate g.rate).sfits);
}

walk_fits : (rs qs : List Record) → Each AcceptedRecord rs → Each AcceptedRecord qs → Each Fitting rs → Each Fitting qs → Each FittingEntry (walk rs qs)
walk_fits = walk_ind (λ rs qs es. Each AcceptedRecord rs → Each AcceptedRecord qs → Each Fitting rs → Each Fitting qs → Each FittingEntry es)
    (λ _ _ _ _. tt)
    (λ r rs qs es _ f a b c d. (alone_fits FirstOnly r a.0 c.0, f a.1 b c.1 d))
    (λ q rs qs es _ f a b c d. (alone_fits SecondOnly q b.0 d.0, f a b.1 c d.1))
    (λ r q rs qs es _ f a b c d. both_fit r q es (same_numbers r q) a.0 c.0 d.0 (f a.1 b.1 c.1 d.1))
  where
    both_fit : (r q : Record) (es : List Entry) (b : Bool) → AcceptedRecord r → Fitting r → Fitting q → Each FittingEntry es → Each FittingEntry (cond b [] (changed r q ∷ []) ++ es)
    both_fit r q es true a f g h = h
    both_fit r q es false a f g h = (changed_fits r q a f g, h)

-- PROMISE. The entries of the list read back from their bytes, whatever is behind them.
pub walk_reads_back : (rs qs : List Record) → Each AcceptedRecord rs → Each AcceptedRecord qs → Each Fitting rs → Each Fitting qs
    → (t : List ℕ) → listed (length (walk rs qs)) (list_bytes (walk rs qs) ++ t) ≡ walk rs qs
walk_reads_back rs qs a b c d t = list_back (walk rs qs) t (walk_fits rs qs a b c d)
