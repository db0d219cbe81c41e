pub mod Dates
pub mod Digits
pub mod Lines
pub mod Shown
pub mod Sizes
pub mod Times
