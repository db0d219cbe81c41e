pub mod Accepting
pub mod Crossing
pub mod Ending
pub mod Following
pub mod Formed
pub mod Histories
pub mod Turns
