-- A table of rows as bytes. Read Form; Inner serves the code's own contracts.
pub mod Form
pub mod Inner
