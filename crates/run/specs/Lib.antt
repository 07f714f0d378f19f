-- Service (g), a run of records. Read Run, then ReadBack; Inner serves the code's own contracts.
pub mod Run
pub mod ReadBack
pub mod Inner
