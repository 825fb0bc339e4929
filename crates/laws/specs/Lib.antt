-- The measures that the theorems speak of.
pub mod Weight
pub mod PartsBound
pub mod Names
pub mod Tokens
pub mod Placed
pub mod Nodes
