-- Laws of whole numbers for the proofs of other crates. Tests: what a computed test says. Integers, Polynomial, Ring: equations by normal forms.
-- Order: inequalities of integers, handed to omega. Near: distances. Floor: quotients rounded down. Turns: angles but for whole turns.
-- Fits, Bits: what 64 bits hold, and that it is read back as it was.
pub mod Tests
pub mod Integers
pub mod Polynomial
pub mod Ring
pub mod Order
pub mod Near
pub mod Floor
pub mod Turns
pub mod Fits
pub mod Bits
