-- What the three demands speak of.
-- ---- demand 1: the calls' contracts, and when each call refuses
pub mod Promises
pub mod Lines
pub mod Faults
pub mod Exactly
-- ---- demand 2: the live engine against the rules
pub mod Ruled
-- ---- demand 3: both editions, side by side
pub mod Both
pub mod Reasons
