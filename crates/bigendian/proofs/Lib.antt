-- Scanning: a number and a sum of words, one step on, for number_at and word_sum. Puts: the bytes of a number put one by one, for put.
-- Numbers: bytes and numbers are inverse. Signs: two's complement. Fields: a number in a field, read back and
-- written again. Sums: two lists that differ in one word. Buffers: bytes at the front of a buffer. Filling: a buffer filled piece by piece.
pub mod Scanning
pub mod Puts
pub mod Numbers
pub mod Signs
pub mod Fields
pub mod Sums
pub mod Buffers
pub mod Filling
