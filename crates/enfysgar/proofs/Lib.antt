-- Each call is proved from its service's contract by the check alone. Literals and Numbers name what it may open and use for that.
pub mod Literals
pub mod Numbers
