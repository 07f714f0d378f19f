-- Numerals: how long a numeral is, and that of a tenth. Reading: a numeral is read as its number. LastFirst: a numeral put into a buffer digit by digit.
-- Pieces: texts put one behind another. The folders prove the functions of src/.
pub mod Numerals
pub mod Reading
pub mod LastFirst
pub mod Pieces
