-- The runs, and the laws that pin the rules.
pub mod Equal
pub mod Stays
pub mod Choices
pub mod Settles
pub mod Opened
pub mod Run
pub mod Runs
pub mod OwnRuns
pub mod CallRuns
