-- Lines: how long a line and the totals are, and one more line of a list. Pieces: a text put together from pieces. Promises: what is promised. Answers: what
-- is written, case by case. The folders prove the functions of src/.
pub mod Lines
pub mod Pieces
pub mod Promises
pub mod Answers
