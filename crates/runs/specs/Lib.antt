-- Runs over any sequence of letters: the live engine's, and the rules' own.
pub mod Run
