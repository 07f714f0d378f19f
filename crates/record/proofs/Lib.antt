-- Whole: the fields put one by one, for fields and record_bytes. Forms: what the form of bytes and what reading them tells, for form and read.
-- Written: what writing gives, for write. Round: what is written reads back. Again: what was read, written again. Kept: what writing leaves
-- and what reading looks at. Changed: one byte changed. Unrefused: bytes that read as a record, for known.
pub mod Whole
pub mod Forms
pub mod Written
pub mod Round
pub mod Again
pub mod Kept
pub mod Changed
pub mod Unrefused
