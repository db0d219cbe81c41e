pub mod Hashed
pub mod Nearer
pub mod Orders
pub mod Shifting
pub mod Stocked
pub mod TakenBack
