pub mod Cutting
pub mod Status
