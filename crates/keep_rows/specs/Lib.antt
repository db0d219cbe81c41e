pub mod Listings
pub mod Modes
pub mod Rows
pub mod Values
