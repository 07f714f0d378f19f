-- Small: a line's numbers are below 10^10. Words: the program's own words, byte by byte. Answers: what is written, case by case. Promises: what is promised.
-- The folders prove the functions of src/.
pub mod Small
pub mod Words
pub mod Answers
pub mod Promises
