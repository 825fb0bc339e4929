-- Laws of the answers. Assumes nothing.
pub mod Eight
pub mod Letters
pub mod Outcomes
