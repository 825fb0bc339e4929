-- A state as the engine holds it, and what one reaction leaves of it.
pub mod States
