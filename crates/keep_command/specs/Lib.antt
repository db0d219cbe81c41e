pub mod Damage
pub mod Ending
pub mod Following
pub mod Left
pub mod NamedShelf
pub mod Running
pub mod Stored
