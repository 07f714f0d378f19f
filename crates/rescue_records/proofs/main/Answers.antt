-- What is written are parts of the two buffers.
use Rattle.std.proofs.Common.{◌≤◌, length, sym, length-take-le}
use Rattle.bigendian.proofs.Buffers.{front_within}
use Rattle.rescue_records.proofs.main.Goals as goal

pub slice_bounds-records-end : goal.slice_bounds-records-end
slice_bounds-records-end c = rw (c.answer-sizes.ensures.sizes.0, c.answer-sizes.ensures.records) (front_within _ _)

pub slice_bounds-write_all-end : goal.slice_bounds-write_all-end
slice_bounds-write_all-end c =
    let h : c.answer-sizes.result.records ≤ length c.answer-sizes.new.records = rw (c.answer-sizes.ensures.sizes.0, c.answer-sizes.ensures.records) (front_within _ _) in
    sym (length-take-le _ _ h)

pub slice_bounds-report-end : goal.slice_bounds-report-end
slice_bounds-report-end c = rw (c.answer-sizes.ensures.sizes.1, c.answer-sizes.ensures.report) (front_within _ _)

pub slice_bounds-write_all-end-2 : goal.slice_bounds-write_all-end-2
slice_bounds-write_all-end-2 c =
    let h : c.answer-sizes.result.report ≤ length c.answer-sizes.new.report = rw (c.answer-sizes.ensures.sizes.1, c.answer-sizes.ensures.report) (front_within _ _) in
    sym (length-take-le _ _ h)
