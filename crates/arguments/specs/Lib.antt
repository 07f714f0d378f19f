-- The table's rows, the exact arguments and angles, and ours. Read Table, Exact, Ours; Inner serves the code's own contracts.
pub mod Table
pub mod Exact
pub mod Ours
pub mod Inner
