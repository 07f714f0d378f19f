-- Service (e): zonal-tide corrections. Read Coefficients, Exact, Ours, Within; Inner serves the code's own contracts.
pub mod Coefficients
pub mod Exact
pub mod Ours
pub mod Within
pub mod Inner
