-- The definitions that the contracts of `stars` and `joins` cite. Assumes nothing.
pub mod Nodes
