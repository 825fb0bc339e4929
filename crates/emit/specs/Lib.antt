-- What emitting asks for and writes: an entry kept as one number, and a table told by numbers.
pub mod Entries
pub mod Fills
