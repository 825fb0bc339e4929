-- What the contracts of `table` cite. Assumes nothing.
pub mod Answers
