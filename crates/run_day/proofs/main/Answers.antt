-- What is written is a part of the buffer.
use Rattle.std.proofs.Common.{◌≤◌, length, sym, length-take-le}
use Rattle.bigendian.proofs.Buffers.{front_within}
use Rattle.run_day.proofs.main.Goals as goal

pub slice_bounds-buffer-end : goal.slice_bounds-buffer-end
slice_bounds-buffer-end c = rw (c.answer-size.ensures.size, c.answer-size.ensures.buffer) (front_within _ _)

pub slice_bounds-write_all-end : goal.slice_bounds-write_all-end
slice_bounds-write_all-end c =
    let h : c.answer-size.result ≤ length c.answer-size.new.buffer = rw (c.answer-size.ensures.size, c.answer-size.ensures.buffer) (front_within _ _) in
    sym (length-take-le _ _ h)
