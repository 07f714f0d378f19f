-- Hold: every row of the list holds, each by computing it.
pub mod Hold
