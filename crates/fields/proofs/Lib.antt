pub mod Bits
pub mod Fields
pub mod Windows
pub mod Puts
pub mod Unique
pub mod Runs
pub mod Packed
