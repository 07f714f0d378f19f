-- The walk over bytes s: what is kept and which places are passed. Places are counted from 0.
use Rattle.std.specs.Prelude.{ℕ, zero, suc, ◌+◌, ◌-◌, Bool, cond, List, [], ◌∷◌, eqb, ltb, length, drop}
use Rattle.record.specs.Format.{record_length}
use Rattle.record.specs.Records.{read_of, is_record}
use Rattle.rescue.specs.declared.Range.{Range}

-- ---- the rule

-- the next thirty bytes at place i read as a record
abbrev pub has_record : List ℕ → ℕ → Bool
has_record s i = is_record (read_of (drop i s))

-- what a walk finds, in its order: the places at which a kept record starts, and the places of the passed bytes
pub record Walk : Type 0 where
  pub kept : List ℕ
  pub passed : List ℕ

-- nothing
abbrev pub ended : Walk
ended = record { kept = []; passed = [] }

-- a record kept at place i, before the rest of a walk
abbrev pub keeping : ℕ → Walk → Walk
keeping i w = record { kept = i ∷ w.kept; passed = w.passed }

-- a byte passed at place i, before the rest of a walk
abbrev pub passing : ℕ → Walk → Walk
passing i w = record { kept = w.kept; passed = i ∷ w.passed }

-- at most k steps from place i on: a record is kept and the walk goes on behind it, or one byte is passed
unfoldable pub stepping : ℕ → List ℕ → ℕ → Walk
stepping zero s i = ended
stepping (suc k) s i =
    let behind = stepping k s (i + record_length) in
    let next = stepping k s (i + 1) in
    cond (ltb i (length s)) (cond (has_record s i) (keeping i behind) (passing i next)) ended

-- the walk from place i on, of as many steps as there are bytes left, which is enough since each step takes one or more
unfoldable pub walk_from : List ℕ → ℕ → Walk
walk_from s i = stepping (length s - i) s i

-- the whole walk
abbrev pub walk : List ℕ → Walk
walk s = walk_from s 0

-- ---- ranges

-- passed bytes side by side: n of them from place i on
abbrev pub range : (start size : ℕ) → Range
range i n = record { start = i; size = n }

-- one more place before ranges, joined to the first where they touch
abbrev pub joined : ℕ → List Range → List Range
joined i [] = range i 1 ∷ []
joined i (r ∷ rs) = cond (eqb (i + 1) r.start) (range i (r.size + 1) ∷ rs) (range i 1 ∷ r ∷ rs)

-- the ranges of places in their order
unfoldable pub ranges_of : List ℕ → List Range
ranges_of [] = []
ranges_of (i ∷ is) = joined i (ranges_of is)
