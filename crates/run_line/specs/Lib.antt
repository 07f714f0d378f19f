-- The answer of run_day. Words is what it says of a bad line, Answer what it writes for any input; Claims has the words of what is proved of it.
pub mod Words
pub mod Answer
pub mod Claims
