pub mod Digits
pub mod Joined
