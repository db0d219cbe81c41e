pub mod Archive
pub mod Carried
pub mod Cutting
pub mod Plans
pub mod Steps
pub mod Walked
