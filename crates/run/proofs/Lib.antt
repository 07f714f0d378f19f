-- Refusals: when a run is refused, for accept. Records: the records of a run and the buffer, for write_later, fill and write. ReadBack: each
-- record at its place, read back.
pub mod Refusals
pub mod Records
pub mod ReadBack
