-- What the compiler's contracts cite, and what is proved of its tables.
pub mod Compiling
pub mod Demand
