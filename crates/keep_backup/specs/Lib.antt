pub mod Backup
pub mod Files
pub mod Folders
pub mod Paths
pub mod Walk
