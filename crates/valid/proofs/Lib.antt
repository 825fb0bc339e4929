-- Laws of the names, the start bits, and the whole check. Assumes nothing.
pub mod Names
pub mod Starts
pub mod Check
