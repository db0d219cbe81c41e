pub mod Folder
pub mod KeyPath
