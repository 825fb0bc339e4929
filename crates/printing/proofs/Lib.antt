-- Laws of a line that is written piece by piece, and of the digits.
pub mod Puts
pub mod Digits
pub mod Shown
