-- Service (g): one record. Read Format, then Records; Inner serves the code's own contracts.
pub mod Format
pub mod Records
pub mod Inner
