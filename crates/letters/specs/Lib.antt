-- The definitions that the contracts of `letters` cite, and those of the checks above it. Assumes nothing.
pub mod Found
pub mod Letters
