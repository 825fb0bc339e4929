-- Laws of the reasons' numbers. Assumes nothing.
pub mod Numbers
