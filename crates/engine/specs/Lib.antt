-- What the live engine's contracts cite.
pub mod Live
