-- The laws of the bytes, for the proofs of the functions; that the tests are together exactly `decode` (`Exact`); and what a caller has (`Callers`).
pub mod Letters
pub mod Loops
pub mod Back
pub mod Exact
pub mod Answers
pub mod Callers
