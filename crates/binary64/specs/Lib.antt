-- What is general about binary64: its words, the reduction of a number to a range, and the words of what is proved of numbers. Inner serves
-- the code's own contracts.
pub mod Words
pub mod Reduction
pub mod Claims
pub mod Inner
