-- The theorems about the definitions of `paper` alone.
-- ---- the grammar: `parse` is right, and whatever is right answers the same
pub mod Posted
pub mod ParseComplete
pub mod ParseHole
pub mod ParseSound
pub mod Parsing
-- ---- the rules: weight, parts and names
pub mod Kept
pub mod Weighs
pub mod Tokens
pub mod Bounded
pub mod Names
pub mod Has
-- ---- discovery and the reachable states
pub mod Members
pub mod Discovers
pub mod Letters
pub mod Reached
pub mod Answers
-- ---- the outcomes of the calls
pub mod Ordered
pub mod Outcomes
pub mod Exact
pub mod Eight
