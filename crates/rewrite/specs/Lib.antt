-- What the functions that rewrite a state's word ask and leave.
pub mod Steps
pub mod Stored
