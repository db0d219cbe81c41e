pub mod Reply
pub mod Telling
