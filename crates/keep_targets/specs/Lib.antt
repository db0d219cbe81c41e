pub mod Call
pub mod Deeds
pub mod Words
