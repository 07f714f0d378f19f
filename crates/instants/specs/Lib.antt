-- Instants of Terrestrial Time. Read Refusals, Limits, Instants, Moments; Inner serves the code's own contracts.
pub mod Refusals
pub mod Limits
pub mod Instants
pub mod Moments
pub mod Inner
