pub mod Crewing
pub mod Serving
