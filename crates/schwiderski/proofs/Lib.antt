-- Days: the sizes of the whole numbers. Sums: no sum passes its bound, so each is finite. Promises: what is promised of the angles.
-- Published: the case of the source, computed.
pub mod Days
pub mod Sums
pub mod Promises
pub mod Published
