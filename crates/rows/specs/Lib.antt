-- Rows of amplitudes of the free core nutation. Read Table, BuiltIn, Places and Claims; Inner serves the code's own contracts.
pub mod Table
pub mod BuiltIn
pub mod Places
pub mod Claims
pub mod Inner
