-- The program's line. Read Lines; Grammar says the same without a scan, for a promise.
pub mod Lines
pub mod Grammar
