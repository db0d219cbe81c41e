pub mod Faults
pub mod Read
pub mod Said
pub mod Span
