-- The states that discovery has found, as blocks of 128 bytes, and the numbers that they have.
pub mod Slots
