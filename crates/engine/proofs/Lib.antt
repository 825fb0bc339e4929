-- What the live engine's proofs share.
pub mod Names
pub mod Loading
pub mod Going
pub mod Beginning
pub mod Calling
pub mod Whole
