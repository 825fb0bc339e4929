-- The laws of the test of a word, for the proofs of the functions.
pub mod Units
pub mod Walked
