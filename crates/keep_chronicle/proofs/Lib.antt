pub mod Cells
pub mod Events
pub mod Prefixes
pub mod Turns
pub mod Stepping
