-- Laws that the proofs of `letters`, and of the checks above it, share. Assumes nothing.
pub mod Padded
pub mod Turns
pub mod Flags
pub mod Collects
pub mod Few
