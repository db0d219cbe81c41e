pub mod Carried
pub mod Found
pub mod Members
pub mod Mode
pub mod Stamp
pub mod Texts
