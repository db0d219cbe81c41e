pub mod Acts
pub mod Found
