-- One entry is put, or none: what is listed here is the entry that the code made.
use Rattle.std.proofs.Common.{◌≡◌, ap, ap₂, sym, ◌∙◌, ℕ, ◌<◌, ◌≤◌, Bool, false, List, [], ◌∷◌, arith}
use Rattle.record.specs.declared.Record.{Record}
use Rattle.compare.specs.declared.Entry.{Entry}
use Rattle.compare.specs.declared.Place.{Place}
use Rattle.compare.specs.declared.Side.TheVariants.{FirstOnly, SecondOnly}
use Rattle.compare.specs.Walk.{alone, changed, same_numbers}
use Rattle.compare.specs.Inner.{record_at, here}
use Rattle.compare.proofs.Entries.{one_room, one_put, none_put}
use Rattle.compare.proofs.Steps.{first_found, second_found, found_reads, found_day, here_first, here_second, here_same, here_changed}
use Rattle.compare.proofs.Pair.put_here.Goals as goal

-- the records at a place, as the code read them
module _ (s t : List ℕ) (p : Place) where
  first_listed : {r : Record} {e : Entry} → r ≡ record_at s p.first → e ≡ alone FirstOnly r → p.m < p.n → here s t p ≡ e ∷ []
  first_listed x z h = here_first s t p h ∙ ap (λ (e : Entry). e ∷ []) (sym (z ∙ ap (alone FirstOnly) x))

  second_listed : {q : Record} {e : Entry} → q ≡ record_at t p.second → e ≡ alone SecondOnly q → p.n < p.m → here s t p ≡ e ∷ []
  second_listed y z h = here_second s t p h ∙ ap (λ (e : Entry). e ∷ []) (sym (z ∙ ap (alone SecondOnly) y))

  module _ {r q : Record} (x : r ≡ record_at s p.first) (y : q ≡ record_at t p.second) {b : Bool} (d : b ≡ same_numbers r q) where
    same : {a : Bool} → b ≡ a → same_numbers (record_at s p.first) (record_at t p.second) ≡ a
    same w = sym (ap₂ same_numbers x y) ∙ (sym d ∙ w)

    changed_listed : {e : Entry} → b ≡ false → e ≡ changed r q → p.n ≤ p.m → p.m ≤ p.n → here s t p ≡ e ∷ []
    changed_listed f z h k = here_changed s t p h k (same f) ∙ ap (λ (e : Entry). e ∷ []) (sym (z ∙ ap₂ changed x y))

-- ---- in the first file only

pub record_at-requires : goal.record_at-requires
record_at-requires c = found_reads (first_found c.requires.going (omega arith))

pub put-requires-clause-day : goal.put-requires-clause-day
put-requires-clause-day c = rw (c.alone.ensures, c.record_at.ensures) (found_day (first_found c.requires.going (omega arith)))

pub put-requires-clause-room : goal.put-requires-clause-room
put-requires-clause-room c =
    let e = first_listed c.args.self.s.now c.args.self.t.now c.args.p c.record_at.ensures c.alone.ensures c.if-p.true in
    one_room _ _ e _ c.requires.room

pub returns-then-p-clause-size : goal.returns-then-p-clause-size
returns-then-p-clause-size c =
    let e = first_listed c.args.self.s.now c.args.self.t.now c.args.p c.record_at.ensures c.alone.ensures c.if-p.true in
    (one_put _ _ e _ _ _ c.put.ensures.size c.put.ensures.list).0

-- ---- in the second only

pub record_at-requires-then-p-2 : goal.record_at-requires-then-p-2
record_at-requires-then-p-2 c = found_reads (second_found c.requires.going c.if-p.false)

pub put-requires-then-p-2-clause-day : goal.put-requires-then-p-2-clause-day
put-requires-then-p-2-clause-day c = rw (c.alone-then-p-2.ensures, c.record_at-then-p-2.ensures) (found_day (second_found c.requires.going c.if-p.false))

pub put-requires-then-p-2-clause-room : goal.put-requires-then-p-2-clause-room
put-requires-then-p-2-clause-room c =
    let e = second_listed c.args.self.s.now c.args.self.t.now c.args.p c.record_at-then-p-2.ensures c.alone-then-p-2.ensures c.if-p-2.true in
    one_room _ _ e _ c.requires.room

pub returns-then-p-2-clause-size : goal.returns-then-p-2-clause-size
returns-then-p-2-clause-size c =
    let e = second_listed c.args.self.s.now c.args.self.t.now c.args.p c.record_at-then-p-2.ensures c.alone-then-p-2.ensures c.if-p-2.true in
    (one_put _ _ e _ _ _ c.put-then-p-2.ensures.size c.put-then-p-2.ensures.list).0

-- ---- in both

pub record_at-r-requires : goal.record_at-r-requires
record_at-r-requires c = found_reads (first_found c.requires.going c.if-p-2.false)

pub record_at-q-requires : goal.record_at-q-requires
record_at-q-requires c = found_reads (second_found c.requires.going c.if-p.false)

pub returns-then-same_numbers-clause-list : goal.returns-then-same_numbers-clause-list
returns-then-same_numbers-clause-list c =
    let s = c.args.self.s.now in
    let t = c.args.self.t.now in
    let e = same s t c.args.p c.record_at-r.ensures c.record_at-q.ensures c.same_numbers.ensures c.if-same_numbers.true in
    (none_put _ _ (here_same s t c.args.p c.if-p.false c.if-p-2.false e)).1

pub put-requires-2-clause-day : goal.put-requires-2-clause-day
put-requires-2-clause-day c = rw (c.changed.ensures, c.record_at-r.ensures) (found_day (first_found c.requires.going c.if-p-2.false))

pub put-requires-2-clause-room : goal.put-requires-2-clause-room
put-requires-2-clause-room c =
    let listed = changed_listed c.args.self.s.now c.args.self.t.now c.args.p c.record_at-r.ensures c.record_at-q.ensures c.same_numbers.ensures in
    let e = listed c.if-same_numbers.false c.changed.ensures c.if-p.false c.if-p-2.false in
    one_room _ _ e _ c.requires.room

pub returns-clause-size : goal.returns-clause-size
returns-clause-size c =
    let listed = changed_listed c.args.self.s.now c.args.self.t.now c.args.p c.record_at-r.ensures c.record_at-q.ensures c.same_numbers.ensures in
    let e = listed c.if-same_numbers.false c.changed.ensures c.if-p.false c.if-p-2.false in
    (one_put _ _ e _ _ _ c.put-2.ensures.size c.put-2.ensures.list).0
