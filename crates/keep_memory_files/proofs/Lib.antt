pub mod Between
pub mod Listing
pub mod Nearer
pub mod Putting
