pub mod Pack
pub mod Reading
pub mod Refusal
