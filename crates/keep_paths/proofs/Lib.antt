pub mod Apart
pub mod Cutting
pub mod Digits
pub mod Folders
