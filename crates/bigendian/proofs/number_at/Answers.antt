use Rattle.std.proofs.Common.{◌≡◌, ◌+◌, ◌^◌, ◌<◌, slice_index, add-one, arith}
use Rattle.bigendian.proofs.Scanning.{bytes_fit, byte_more, byte_in}
use Rattle.bigendian.proofs.number_at.Goals as goal

pub overflow_mul-value : goal.overflow_mul-value
overflow_mul-value c =
    let r : c.loop-x.value < 256 ^ 7 = bytes_fit c.loop-x.x-index c.loop-x.value (omega arith) c.loop-x.invariant.below in
    omega arith

pub overflow_add-value : goal.overflow_add-value
overflow_add-value c =
    let r : c.loop-x.value < 256 ^ 7 = bytes_fit c.loop-x.x-index c.loop-x.value (omega arith) c.loop-x.invariant.below in
    omega (arith, c.type_inv.s (c.args.at + c.loop-x.x-index), byte_in c.args.s.now c.args.at c.args.size c.loop-x.x-index _ c.loop-x-test.true c.from.ensures)

pub loop-x-preserved : goal.loop-x-preserved
loop-x-preserved c =
    let b : c.from.result ≡ slice_index c.args.s.now (c.args.at + c.loop-x.x-index) = byte_in c.args.s.now c.args.at c.args.size c.loop-x.x-index _ c.loop-x-test.true c.from.ensures in
    let f : c.from.result < 256 = omega (arith, b, c.type_inv.s (c.args.at + c.loop-x.x-index)) in
    record {
      value = simp (add-one, b, c.loop-x.invariant.value);
      below = byte_more c.loop-x.x-index c.loop-x.value c.from.result c.loop-x.invariant.below f;
    }
