pub mod Adding
pub mod Meaning
pub mod Rows
