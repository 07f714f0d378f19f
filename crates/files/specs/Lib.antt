-- Record files. Read Files; Claims has the words of what is proved of them, and Inner serves the code's own contracts.
pub mod Files
pub mod Claims
pub mod Inner
