-- Rounded, Bounded: no number passes its bound, so each is finite. Range: what is reduced is in its range. WholeUnits: the remainder in
-- whole numbers.
pub mod Rounded
pub mod Bounded
pub mod Range
pub mod WholeUnits
