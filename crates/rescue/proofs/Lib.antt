-- Walks: the rule written out, and what holds of every walk. Hops: many steps at a time. Ranges: they are apart and are the passed places. Covers: every
-- place is passed or in a kept record, and how many there are. Whole: whole records. Damage: one of them damaged. Entries: the bytes of an answer. Rounds:
-- the loops' invariants. Answers: the answer, case by case. Promises: of the answer. Examples: a damaged record, computed.
pub mod Walks
pub mod Hops
pub mod Ranges
pub mod Covers
pub mod Whole
pub mod Damage
pub mod Entries
pub mod Rounds
pub mod Answers
pub mod Promises
pub mod Examples
