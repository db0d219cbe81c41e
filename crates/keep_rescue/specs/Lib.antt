pub mod Rescued
pub mod Salvage
pub mod Seen
pub mod Words
