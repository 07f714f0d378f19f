-- Numbers: equal numbers and differences, for same_numbers and difference. Walks: a walk, one step on, and the induction over its steps. Steps: where a walk
-- stands and goes on to, for start, next, count_here and count. Entries: the bytes of entries, for bytes and put_here. Writing: the list entry by
-- entry, for fill. Answers: the answer, case by case, for compare_of and compare. AtInstants: what is listed at an instant. Exchanges: files exchanged, and
-- files with the same records. Rises: the order of entries. ReadsBack: entries from their bytes. Promises: what is promised. Examples: two files, computed.
pub mod Numbers
pub mod Walks
pub mod Steps
pub mod Entries
pub mod Writing
pub mod Answers
pub mod AtInstants
pub mod Exchanges
pub mod Rises
pub mod ReadsBack
pub mod Promises
pub mod Examples
