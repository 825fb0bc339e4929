-- Which words are a state's of a program: units that may stand where they do, modules of the program, and a weight of at most 96.
pub mod Judging
