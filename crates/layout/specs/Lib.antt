-- What a table may say, which bytes say it, and what start and step answer of it.
pub mod Places
pub mod InRange
pub mod Says
pub mod Answered
