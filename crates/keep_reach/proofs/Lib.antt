pub mod Heights
pub mod Reached
pub mod Sound
pub mod UsedBlobs
pub mod Walking
