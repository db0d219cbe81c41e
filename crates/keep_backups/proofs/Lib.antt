pub mod Added
pub mod GivenSo
pub mod Kept
pub mod KnownMaps
pub mod Names
pub mod Storing
pub mod Tied
pub mod Written
