-- Laws that several proofs cite.
pub mod Writing
pub mod Numbers
pub mod Filled
pub mod Concrete
