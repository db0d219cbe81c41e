pub mod Config
pub mod FolderShelfData
