-- Answers: the answers of a file, one after the other. Places: a place in a file and the moment there, for moment_at. Refused: which refusal a
-- file has, for check. Records: what the records of a file have.
pub mod Answers
pub mod Places
pub mod Refused
pub mod Records
