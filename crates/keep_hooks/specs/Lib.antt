pub mod Guards
pub mod Limits
pub mod Measures
pub mod Rules
pub mod Written
