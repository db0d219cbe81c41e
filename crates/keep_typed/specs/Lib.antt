pub mod Names
pub mod Typed
