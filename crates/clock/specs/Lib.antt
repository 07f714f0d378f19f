-- Service (c): an instant as two clock words.
pub mod Words
