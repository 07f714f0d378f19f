-- Scanning: a number byte by byte, for the loop of the code. Grammar: what is parsed is what the grammar says. Newline: what follows a newline does not
-- count. The folders prove the functions of src/.
pub mod Scanning
pub mod Grammar
pub mod Newline
