-- Laws that the proofs cite.
pub mod Loops
pub mod Words
pub mod Told
pub mod Emitted
pub mod Concrete
