-- What the compiler's proofs share.
pub mod Editions
pub mod Building
pub mod Whole
pub mod Demand
