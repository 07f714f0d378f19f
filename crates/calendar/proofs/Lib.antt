-- Laws of the definitions. Laws: leap years, and the days of years by quotients. Below: a test at every number below another. Months: the months of a
-- year, by tests. Dates: every index has one date. Groups: a day's year and month by arithmetic. Inverse: dates and day numbers each way.
-- Order: dates in their order. Times: an instant of a date and time. The folders prove the functions of src/.
pub mod Laws
pub mod Below
pub mod Months
pub mod Dates
pub mod Groups
pub mod Inverse
pub mod Order
pub mod Times
