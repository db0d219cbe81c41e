pub mod Facts
pub mod Refusal
pub mod Relabel
pub mod Shape
pub mod Snap
pub mod Time
pub mod Written
