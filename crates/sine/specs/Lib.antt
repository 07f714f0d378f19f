-- The sine and cosine of an angle in turns. Read Series and Exact, then Ours and Within. Inner serves the code's own contracts.
pub mod Series
pub mod Exact
pub mod Ours
pub mod Within
pub mod Inner
