-- Laws that several proofs cite.
pub mod Marking
pub mod Flagged
pub mod Reacting
pub mod Concrete
