-- The programs' words. Text is what they write of a number and of a refusal; Claims says what a decimal numeral is, for what is proved of it.
pub mod Text
pub mod Claims
