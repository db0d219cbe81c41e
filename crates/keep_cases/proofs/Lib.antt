pub mod Acting
pub mod AllFound
pub mod Shifting
