use Rattle.std.proofs.Common.{refl, sym, ◌∙◌}
use Rattle.bigendian.proofs.Buffers.{front_copy}
use Rattle.rescue.specs.Inner.{Turned}
use Rattle.rescue.proofs.Rounds.{turn_within, written_none, list_room_lem, records_room_lem, written_more, written_all}
use Rattle.rescue.proofs.fill.Goals as goal

pub loop-t-init : goal.loop-t-init
loop-t-init c = rw c.into_iter-t-iterator.ensures.into_iter_gives (refl, written_none _ _ _ c.requires)

pub put_range-listed-requires : goal.put_range-listed-requires
put_range-listed-requires c =
    let x = c.in-Some.ensures.steps in
    let i = c.loop-t.invariant in
    let t : Turned c.args.s.now c.loop-t.t-iterator.at c.in-Some.t.from c.in-Some.t.end = rw (← i.0) x.1.2 in
    rw x.1.0 (list_room_lem i.1 _ t.hop)

pub slice_bounds-copy-end : goal.slice_bounds-copy-end
slice_bounds-copy-end c =
    let x = c.in-Some.ensures.steps in
    let i = c.loop-t.invariant in
    let t : Turned c.args.s.now c.loop-t.t-iterator.at c.in-Some.t.from c.in-Some.t.end = rw (← i.0) x.1.2 in
    turn_within c.args.s.now _ _ _ t

pub copy-kept-requires : goal.copy-kept-requires
copy-kept-requires c =
    let x = c.in-Some.ensures.steps in
    let i = c.loop-t.invariant in
    let t : Turned c.args.s.now c.loop-t.t-iterator.at c.in-Some.t.from c.in-Some.t.end = rw (← i.0) x.1.2 in
    records_room_lem i.1 t

pub loop-t-preserved : goal.loop-t-preserved
loop-t-preserved c =
    let x = c.in-Some.ensures.steps in
    let i = c.loop-t.invariant in
    let t : Turned c.args.s.now c.loop-t.t-iterator.at c.in-Some.t.from c.in-Some.t.end = rw (← i.0) x.1.2 in
    let copied = c.copy-kept.ensures.buffer ∙ sym (front_copy _ _) in
    let size = rw x.1.0 at c.put_range-listed.ensures.size in
    let list = rw x.1.0 at c.put_range-listed.ensures.list in
    rw (x.0, x.1.1) (i.0, written_more i.1 t _ _ _ _ c.copy-kept.ensures.size copied size list)

pub returns-clause-records : goal.returns-clause-records
returns-clause-records c = (written_all c.loop-t.invariant.1 (rw (← c.loop-t.invariant.0) c.in-None.ensures.steps.1)).0

pub returns-clause-list : goal.returns-clause-list
returns-clause-list c = (written_all c.loop-t.invariant.1 (rw (← c.loop-t.invariant.0) c.in-None.ensures.steps.1)).1
