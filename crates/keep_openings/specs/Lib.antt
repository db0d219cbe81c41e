pub mod Refused
pub mod Unopened
