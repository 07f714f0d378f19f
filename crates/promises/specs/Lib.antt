-- The three demands, each a record of statements about the definitions. Read Figures, AnyInput, Exactness (with Rescued, of service (i), Angles, of
-- service (j), and Compared, of service (k)), Distance. The files of proofs/ have a proof of each.
pub mod Figures
pub mod AnyInput
pub mod Rescued
pub mod Angles
pub mod Compared
pub mod Exactness
pub mod Distance
