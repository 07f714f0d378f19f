use Rattle.std.proofs.Common.{arith}
use Rattle.compare.proofs.Steps.{step_less}
use Rattle.compare.proofs.Writing.{writing_none, writing_going, writing_room, writing_most, writing_more, writing_all}
use Rattle.compare.proofs.Pair.fill.Goals as goal

pub loop-done-init : goal.loop-done-init
loop-done-init c = writing_none _ _ _ _ _ c.requires c.start-p.ensures

pub put_here-done-requires-clause-going : goal.put_here-done-requires-clause-going
put_here-done-requires-clause-going c = writing_going c.loop-done.invariant c.loop-done-test.true

pub put_here-done-requires-clause-room : goal.put_here-done-requires-clause-room
put_here-done-requires-clause-room c = writing_room c.loop-done.invariant c.loop-done-test.true

pub overflow_add-done : goal.overflow_add-done
overflow_add-done c =
    record { fits = omega (arith, c.put_here-done.ensures.size, writing_most c.loop-done.invariant c.loop-done-test.true, c.ranges.needed) }

pub next-p-requires : goal.next-p-requires
next-p-requires c = writing_going c.loop-done.invariant c.loop-done-test.true

pub loop-done-smaller : goal.loop-done-smaller
loop-done-smaller c = step_less (writing_going c.loop-done.invariant c.loop-done-test.true) _ c.next-p.ensures

pub loop-done-preserved : goal.loop-done-preserved
loop-done-preserved c =
    writing_more c.loop-done.invariant c.loop-done-test.true _ _ _ c.put_here-done.ensures.size c.next-p.ensures c.put_here-done.ensures.list

pub returns : goal.returns
returns c = writing_all c.loop-done.invariant c.loop-done-test.false
