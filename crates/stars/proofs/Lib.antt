-- Laws that the proofs of `stars` and `joins` share. Assumes nothing.
pub mod Scans
pub mod Least
pub mod Sits
pub mod Stars
pub mod Written
