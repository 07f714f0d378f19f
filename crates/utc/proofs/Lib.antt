-- Laws. Steps: the table. Days: UTC days in TT. Readings: what an accepted reading has, and its time of day. Inverse: readings and instants each way.
-- Unique: one reading for one instant. PhaseInstants: both parts at once. Following: a second later. Eves: the days that have a second 60, as dates. The
-- folders prove the functions of src/.
pub mod Steps
pub mod Days
pub mod Readings
pub mod Inverse
pub mod Unique
pub mod PhaseInstants
pub mod Following
pub mod Eves
