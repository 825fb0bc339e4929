-- What the contracts of the reader cite.
pub mod Reads
pub mod Stages
