-- Laws that several proofs cite, and those of the numbers for callers.
pub mod Numbers
pub mod Buckets
pub mod Blocks
pub mod Searching
pub mod Enrolling
