-- A program's nodes as the code holds them, and the table of `laws` that they are.
pub mod Rows
