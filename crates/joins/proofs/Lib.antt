-- Laws that the proofs of `joins` share. Assumes nothing.
pub mod Uses
pub mod Joins
pub mod Sets
pub mod Sharing
pub mod Passes
