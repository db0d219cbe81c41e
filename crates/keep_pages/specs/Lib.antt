pub mod Following
pub mod Histories
pub mod Laws
pub mod Sheet
