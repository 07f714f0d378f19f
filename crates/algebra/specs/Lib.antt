-- What the statements of distances are written in: signed numbers, remainders and sums, and Near. No service of its own. Read Integers, then Near.
pub mod Integers
pub mod Near
