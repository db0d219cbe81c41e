pub mod Holding
pub mod Known
pub mod Parts
pub mod Paths
pub mod Sighted
pub mod Taken
pub mod Trees
