-- The laws that the functions' proofs cite.
-- ---- the table of kinds
pub mod Table
pub mod Rule
-- ---- lines, keys and lists
pub mod Parts
pub mod Cutting
pub mod Keys
pub mod Letters
pub mod Entering
pub mod Stepping
-- ---- from the answer on
pub mod Onward
pub mod Listed
