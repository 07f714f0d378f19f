-- There is room for the next record, its instant is accepted, and its place is where the records before it end.
use Rattle.std.proofs.Common.{arith, sym}
use Rattle.bigendian.proofs.Buffers.{front_none}
use Rattle.run.specs.Run.{run_bytes}
use Rattle.run.proofs.Refusals.{not_refused, steps_few, run_accepted}
use Rattle.run.proofs.Records.{filled_more}
use Rattle.run.proofs.fill.Goals as goal

pub loop-k-init : goal.loop-k-init
unfolding run_bytes
loop-k-init c =
    let r = not_refused _ _ _ _ _ c.requires in
    record { most = omega arith; room = r.room; bytes = sym (front_none c.args.buffer.now) }

pub overflow_mul-k : goal.overflow_mul-k
overflow_mul-k c =
    let r = not_refused _ _ _ _ _ c.requires in
    omega (arith, steps_few c.loop-k.k c.args.step (omega (arith, r.counted.count_most)) r.counted.step_most)

pub write_later-requires : goal.write_later-requires
write_later-requires c =
    let r = not_refused _ _ _ _ _ c.requires in
    record { accepted = r.accepted; few = steps_few c.loop-k.k c.args.step (omega (arith, r.counted.count_most)) r.counted.step_most }

pub loop-k-preserved : goal.loop-k-preserved
loop-k-preserved c = filled_more c.loop-k.invariant c.loop-k-test.true (run_accepted _ _ _ _ _ c.requires c.loop-k.k c.loop-k-test.true) _ c.write_later.ensures
