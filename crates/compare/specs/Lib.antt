-- Service (k): what differs between two record files. Read Walk, then Compare; Claims has the words of what is proved of them, and Inner serves the code's
-- own contracts.
pub mod Walk
pub mod Compare
pub mod Claims
pub mod Inner
