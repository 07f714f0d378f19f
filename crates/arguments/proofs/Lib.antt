-- The distance of our angles from the exact ones, in steps: Floor, a quotient and a product rounded down; Quartic, a half and an argument;
-- Distance, the rows. Rows has the table's rows as the code goes through them, Worked values.
pub mod Floor
pub mod Quartic
pub mod Rows
pub mod Distance
pub mod Worked
