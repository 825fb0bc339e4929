-- What is proved of the table that `specs/Made` makes.
-- ---- a node is found or added
pub mod Choice
pub mod Codes
pub mod Columns
pub mod Sought
pub mod Makes
-- ---- what a table is, and its trees
pub mod Trees
pub mod Table
pub mod Apart
pub mod Puts
-- ---- a program's tree, made
pub mod Means
pub mod Grown
pub mod Laws
pub mod Parts
pub mod ByTerm
-- ---- place by place, as the code goes
pub mod Runs
pub mod Going
pub mod Weighing
-- ---- one that is
pub mod Some
