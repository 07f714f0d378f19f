-- UTC readings. Read Table, Readings, Conversions, PhaseInstants; Claims has what the promises say of them, Inner serves the code's own contracts.
pub mod Table
pub mod Readings
pub mod Conversions
pub mod PhaseInstants
pub mod Claims
pub mod Inner
