-- What the contracts of this crate speak of.
pub mod Kinds
pub mod Spans
pub mod Steps
