pub mod Option
pub mod Reading
