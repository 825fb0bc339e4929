-- What the reader's proofs share.
pub mod Slices
pub mod Either
pub mod Listed
pub mod Fits
pub mod Accepts
pub mod Reading
