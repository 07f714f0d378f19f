-- AnyInput, Exactness, Distance: a proof of each demand, from the theorems of the services; Rescued, Angles and Compared are the parts of Exactness on
-- services (i), (j) and (k). Figures, Utc, Rows, Angles and Files: refusals in the figures of AnyInput. Standing and Bounds: laws that no proof needs today.
pub mod Figures
pub mod Utc
pub mod Rows
pub mod Angles
pub mod Files
pub mod AnyInput
pub mod Rescued
pub mod Compared
pub mod Exactness
pub mod Distance
pub mod Standing
pub mod Bounds
