-- What the contracts of `entries` cite. Assumes nothing.
pub mod Entries
