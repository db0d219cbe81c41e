pub mod Deed
pub mod Performing
