-- The live state's 128 bytes: the word of a term, the layout of the bytes, the written set of states, and the coding.
pub mod Units
pub mod Layout
pub mod Written
pub mod Code
