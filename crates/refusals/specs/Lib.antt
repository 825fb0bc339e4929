-- What a refusal and an edition stand for in document 01.
pub mod Refusals
