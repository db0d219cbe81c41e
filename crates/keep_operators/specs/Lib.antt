pub mod Asked
pub mod Backups
pub mod Crewed
