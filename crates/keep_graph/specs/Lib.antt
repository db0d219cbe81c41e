pub mod Dot
pub mod Leaning
pub mod Tree
