-- Laws that the check and the answers share. Assumes nothing.
pub mod Counted
pub mod Wrong
