pub mod Cascade
pub mod Closed
pub mod Crew
pub mod Held
pub mod Pressed
