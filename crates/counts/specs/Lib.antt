-- What the contracts of `counts` cite. Assumes nothing.
pub mod Counts
