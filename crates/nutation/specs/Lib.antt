-- The offsets of the free core nutation, at a place among rows (crate rows) that are built in or read from bytes (crate row_bytes). Read Exact, Ours and
-- Claims; Inner serves the code's own contracts.
pub mod Exact
pub mod Ours
pub mod Claims
pub mod Inner
