pub mod Begun
pub mod Input
pub mod Left
pub mod Line
pub mod Run
pub mod Status
pub mod Step
