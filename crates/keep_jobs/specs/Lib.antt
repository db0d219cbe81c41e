pub mod Job
pub mod Kits
pub mod Patterns
pub mod Resolving
