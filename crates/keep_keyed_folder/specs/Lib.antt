pub mod Keyed
pub mod Left
pub mod Order
pub mod Stops
pub mod Tmp
pub mod Walked
