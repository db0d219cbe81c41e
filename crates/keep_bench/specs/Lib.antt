pub mod Backup
pub mod Pack
