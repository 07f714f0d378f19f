-- Numbers as bytes, the fields of a byte form, and bytes at the front of a buffer. Read Numbers, then Fields and Buffers; Inner serves the code's own
-- contracts.
pub mod Numbers
pub mod Fields
pub mod Buffers
pub mod Inner
