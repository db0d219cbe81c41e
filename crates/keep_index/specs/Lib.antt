pub mod Index
pub mod Joining
pub mod Listed
pub mod Reading
pub mod Refusal
pub mod Writing
