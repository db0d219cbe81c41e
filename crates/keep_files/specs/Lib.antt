pub mod Act
pub mod Content
pub mod Laws
pub mod Path
pub mod Stands
