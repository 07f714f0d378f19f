-- Service (i): records rescued from damaged bytes. Read Walk, then Rescue; Claims has the words of what is proved of them, and Inner serves the code's own
-- contracts.
pub mod Walk
pub mod Rescue
pub mod Claims
pub mod Inner
