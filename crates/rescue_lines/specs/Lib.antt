-- What the program rescue_records writes. Lines has its words and what it writes for any input; Inner serves the code's own contracts.
pub mod Lines
pub mod Inner
