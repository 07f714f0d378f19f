-- The eleven Schwiderski angles. Read the words of binary64 (crates/binary64/specs), then Formula and Service; Claims has the words of what is proved of them.
pub mod Formula
pub mod Service
pub mod Claims
