pub mod Allowed
pub mod Asked
pub mod Known
pub mod Pages
pub mod Registered
