-- Document 01 as definitions, a file for each part of it, in its order.
pub mod Lists
pub mod Bytes
pub mod File
pub mod Grammar
pub mod Parse
pub mod Limits
pub mod Term
pub mod Running
pub mod Rewriting
pub mod Settling
pub mod Reaction
pub mod Discovery
pub mod Table
pub mod IsTable
pub mod Refusals
pub mod Calls
pub mod Programs
