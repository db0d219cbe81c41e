pub mod Armed
pub mod Cascade
pub mod Names
