-- The distance of our sine from the exact one, in steps: Series, the twelve terms and how fast they move; Angles, the same at an angle in turns;
-- Alternating, our alternating sum; Quarter, our sine up to a quarter; Fold, the other quarters; Distance, the fact.
-- For the code: Cases, the choices it makes, and Sizes, how large its numbers are. Worked has values.
pub mod Series
pub mod Angles
pub mod Alternating
pub mod Quarter
pub mod Fold
pub mod Distance
pub mod Cases
pub mod Sizes
pub mod Worked
