-- Dates and times of day. Read Limits, Dates, Times; Claims has words of the promises, Inner serves the code's own contracts.
pub mod Limits
pub mod Dates
pub mod Times
pub mod Claims
pub mod Inner
