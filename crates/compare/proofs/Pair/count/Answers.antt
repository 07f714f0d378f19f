use Rattle.std.proofs.Common.{inl, inr}
use borrow.Author.Tests.{ltb-false}
use Rattle.instants.proofs.Accepted.{both_false}
use Rattle.compare.proofs.Steps.{step_less, counting_none, counting_going, counting_more, counting_first, counting_second, counting_done}
use Rattle.compare.proofs.Pair.count.Goals as goal

pub loop-p-init : goal.loop-p-init
loop-p-init c = counting_none _ _ _ c.start-p.ensures

pub loop-p-smaller : goal.loop-p-smaller
loop-p-smaller c = step_less (counting_going c.loop-p.invariant c.loop-p-test.true) _ c.next-p.ensures

pub loop-p-preserved : goal.loop-p-preserved
loop-p-preserved c = counting_more c.loop-p.invariant c.loop-p-test.true _ _ c.count_here-entries.ensures c.next-p.ensures

pub returns-then-p-ne-END : goal.returns-then-p-ne-END
returns-then-p-ne-END c =
    let past = both_false _ _ c.loop-p-test.false in
    elim c.then-p-ne-END.either [
      | inl a ↦ counting_first c.loop-p.invariant (ltb-false _ _ past.0) a
      | inr b ↦ counting_second c.loop-p.invariant b.0 (ltb-false _ _ past.1) b.1
    ]

pub returns : goal.returns
returns c = counting_done c.loop-p.invariant c.if-p-ne-END.false c.if-p-ne-END-2.false
