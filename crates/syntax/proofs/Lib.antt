-- The laws that the readers' proofs cite.
pub mod Stores
pub mod Steps
pub mod Reading
pub mod Productions
pub mod Programs
pub mod Clears
