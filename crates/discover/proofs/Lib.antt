-- Discovery over the working slice: turn by turn, by bytes, by number, and letter by letter.
pub mod Turning
pub mod Arriving
pub mod Idling
pub mod Entering
pub mod Moving
pub mod Stepping
pub mod Visiting
pub mod Exploring
