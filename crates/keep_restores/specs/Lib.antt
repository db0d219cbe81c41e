pub mod Attributes
pub mod Choosing
pub mod Dumping
pub mod Restoring
pub mod Wanted
pub mod Words
