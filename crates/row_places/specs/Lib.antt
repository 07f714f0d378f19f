-- The lookup of a moment among rows, and how many of them it probes. Read Lookup; Inner serves the code's own contracts.
pub mod Lookup
pub mod Inner
