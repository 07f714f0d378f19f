-- Sizes: how large the numbers of the code are, and its quotients in two steps. Rounding: the uncertainty as the code computes it. Interpolation: an
-- amplitude's distance. Distance: the angle's, and from both the offsets'. Promises: what is promised of the answers. Uncertainty: that it is above 0, and
-- that the answers would be the same without the absolute value. Then a proof for each function.
pub mod Sizes
pub mod Rounding
pub mod Interpolation
pub mod Distance
pub mod Promises
pub mod Uncertainty
