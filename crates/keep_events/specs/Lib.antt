pub mod Deeds
pub mod Events
pub mod Parts
