-- The words of what is proved of a comparison (proofs/).
use Rattle.std.specs.Prelude.{ℕ, zero, suc, Bool, cond, ◌&&◌, ◌||◌, List, [], ◌∷◌, eqb, ℤ, neg_ℤ, drop}
use Rattle.bigendian.specs.Fields.{field_at, signed_at}
use Rattle.record.specs.declared.Record.{Record}
use Rattle.compare.specs.declared.Entry.{Entry}
use Rattle.compare.specs.declared.Side.{Side}
use Rattle.compare.specs.declared.Side.TheVariants.{FirstOnly, SecondOnly, InBoth}
use Rattle.compare.specs.Walk.{entry, equal}
use Rattle.compare.specs.Compare.{entry_length, side_field, day_field, micros_field, ut1_field, lod_field, rate_field}

-- ---- what stands at an instant

-- one of a list, or none
pub data Search (A : Type 0) : Type 0 where
  There : A → Search A
  Nowhere : Search A

-- the instants d, m and e, n are one
abbrev pub one_instant : ℤ → ℕ → ℤ → ℕ → Bool
one_instant d m e n = equal d e && eqb m n

-- the first record of the instant d, m
abbrev pub record_of_instant : ℤ → ℕ → List Record → Search Record
record_of_instant d m [] = Nowhere
record_of_instant d m (r ∷ rs) = cond (one_instant d m r.day r.micros) (There r) (record_of_instant d m rs)

-- the first entry of the instant d, m
abbrev pub entry_of_instant : ℤ → ℕ → List Entry → Search Entry
entry_of_instant d m [] = Nowhere
entry_of_instant d m (e ∷ es) = cond (one_instant d m e.day e.micros) (There e) (entry_of_instant d m es)

-- ---- files exchanged

-- the side of an entry: first and second are exchanged, both is both
abbrev pub other_side : Side → Side
other_side FirstOnly = SecondOnly
other_side SecondOnly = FirstOnly
other_side InBoth = InBoth

-- an entry with its side exchanged and its differences negated
abbrev pub exchanged : Entry → Entry
exchanged e = record { side = other_side e.side; day = e.day; micros = e.micros; ut1 = neg_ℤ e.ut1; lod = neg_ℤ e.lod; rate = neg_ℤ e.rate }

-- ---- reading back

-- the entry at the front of l
abbrev pub entry_in : List ℕ → Entry
entry_in l = entry (field_at l side_field) (signed_at l day_field) (field_at l micros_field) (signed_at l ut1_field) (signed_at l lod_field) (signed_at l rate_field)

-- a number is that of a side
abbrev pub is_side : ℕ → Bool
is_side n = eqb n 1 || (eqb n 2 || eqb n 3)

-- the first n entries of a list, read from its bytes, up to one whose first byte is no side's number
abbrev pub listed : ℕ → List ℕ → List Entry
listed zero l = []
listed (suc n) l = cond (is_side (field_at l side_field)) (entry_in l ∷ listed n (drop entry_length l)) []
