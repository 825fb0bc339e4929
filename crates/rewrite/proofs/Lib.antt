-- Laws that several proofs cite.
pub mod Tops
pub mod Hitting
pub mod Leaves
pub mod Standing
pub mod Leading
pub mod Shifting
pub mod Served
pub mod Occurring
pub mod Concrete
