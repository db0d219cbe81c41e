pub mod Begun
pub mod Behind
pub mod Config
pub mod Doc
pub mod Fields
pub mod Lists
pub mod Readable
pub mod Refusal
