-- A state's term as a word of units, and what the functions on words ask and leave.
pub mod Word
pub mod Unit
pub mod Pieces
