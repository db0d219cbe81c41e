pub mod Added
pub mod Numbers
pub mod Ordered
pub mod Signs
