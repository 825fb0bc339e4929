-- What is proved of the coding.
-- ---- the word of a term
pub mod Letters
pub mod Found
pub mod Words
pub mod Standing
-- ---- the bytes, and back
pub mod Bytes
pub mod Fit
pub mod Coded
-- ---- the written set
pub mod Closed
pub mod Accepted
pub mod Right
-- ---- in plain bytes
pub mod Runs
