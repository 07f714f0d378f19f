-- Accepted: what the tests of a table say, and the built-in rows. Places: where a moment is among the rows. Interpolated: the uncertainties between two rows.
pub mod Accepted
pub mod Places
pub mod Interpolated
