-- The three demands, as theorems over the contracts of the six public calls.
-- ---- demand 1: each contract admits one outcome, and each refusal is given exactly when its condition holds
pub mod Tied
pub mod OneOutcome
pub mod Keys
pub mod Cutting
pub mod Reading
pub mod Verdict
pub mod Compiling
pub mod Lettered
pub mod Tabling
pub mod Living
pub mod Exactly
-- ---- demand 2: the table and the live engine against the rules
pub mod Demand2
-- ---- demand 3: why Basic may refuse a file; both editions, side by side
pub mod Where
pub mod Joints
pub mod Refused
pub mod Alphabet
pub mod OneStep
pub mod Demand3
