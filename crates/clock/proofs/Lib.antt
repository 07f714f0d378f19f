-- Mark: the mark of a day from its index. Words: splitting and joining undo each other, and which words are joined. The folders prove the functions of
-- src/.
pub mod Mark
pub mod Words
