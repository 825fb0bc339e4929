-- What the contracts of this crate cite.
pub mod Made
pub mod ByTerm
pub mod Given
pub mod Weights
