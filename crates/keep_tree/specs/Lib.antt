pub mod Names
pub mod Shape
pub mod Tree
pub mod Written
