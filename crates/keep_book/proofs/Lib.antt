pub mod Cascading
pub mod Naming
pub mod Places
pub mod Replied
pub mod Undos
pub mod Walking
