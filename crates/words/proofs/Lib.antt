-- Laws of nodes and words that several proofs cite.
pub mod Marks
pub mod Trees
pub mod Holding
pub mod Drawing
pub mod Determined
pub mod Reading
pub mod Joins
pub mod Runs
pub mod Heads
pub mod Arms
pub mod Comparing
pub mod Distinct
pub mod Concrete
