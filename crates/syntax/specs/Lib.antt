-- What the readers answer.
pub mod Store
pub mod Readers
pub mod Outcome
