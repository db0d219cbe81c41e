pub mod Absent
pub mod RunName
