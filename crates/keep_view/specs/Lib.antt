pub mod Laws
pub mod Planned
pub mod Shown
pub mod Telling
