pub mod Config
pub mod Ends
