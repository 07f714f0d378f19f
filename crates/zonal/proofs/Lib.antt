-- Coefficients: none of the table is large. Weighted: sums over rows. Distance: how near the exact sums our numbers are. Sizes: how large they are,
-- for the code. Promises: what is promised of every answer. Worked: the test case of RG_ZONT2, that no constant would do,
-- and the distances in figures.
pub mod Coefficients
pub mod Weighted
pub mod Distance
pub mod Sizes
pub mod Promises
pub mod Worked
