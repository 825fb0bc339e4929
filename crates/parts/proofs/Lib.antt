-- The laws of parts that the proofs of this crate, and its callers, cite.
pub mod Capped
pub mod Rows
pub mod Units
