-- The definitions that the contracts of `limits` cite. Assumes nothing.
pub mod Checks
