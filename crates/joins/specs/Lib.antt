-- The definitions that the contracts of `joins` cite. Assumes nothing.
pub mod Sets
