-- What the proofs of `limits` share. Assumes nothing.
pub mod Order
