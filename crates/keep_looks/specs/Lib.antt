pub mod Advice
pub mod Chosen
pub mod Found
pub mod Nodes
pub mod Shown
