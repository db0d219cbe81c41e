pub mod Entry
pub mod Laws
pub mod Members
pub mod Refusal
pub mod Shape
pub mod Spelling
