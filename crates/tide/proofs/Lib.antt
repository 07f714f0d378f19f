-- Signed: the whole numbers that come in. Sums: no number passes its bound, so each is finite.
-- Promises: what is promised of every answer. Published: the two cases of the source, computed.
pub mod Signed
pub mod Sums
pub mod Promises
pub mod Published
