-- Reading: how many rows the bytes hold, and where each stands. Forms: what the cases of the form say, and what the bytes of an accepted table have. Scans:
-- a test of every row. Round: what is written reads back. Again: what was read, written again. Then a proof for each function.
pub mod Reading
pub mod Forms
pub mod Scans
pub mod Round
pub mod Again
