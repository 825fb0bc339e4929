-- Laws of the entries. Assumes nothing.
pub mod Entries
pub mod Rows
pub mod Runs
