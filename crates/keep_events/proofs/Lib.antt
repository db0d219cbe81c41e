pub mod Unread
pub mod Whole
