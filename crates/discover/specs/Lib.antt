-- What the contracts of discovery cite.
pub mod Finding
