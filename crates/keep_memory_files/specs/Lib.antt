pub mod Bounds
pub mod Failing
pub mod Memory
pub mod Plan
