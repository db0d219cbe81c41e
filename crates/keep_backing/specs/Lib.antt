pub mod Asked
pub mod Backed
pub mod Unchanged
