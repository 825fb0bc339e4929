-- What an error leaves of a buffer that was being filled.
pub mod Front
pub mod Turns
pub mod Blocks
