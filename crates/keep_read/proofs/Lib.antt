pub mod Below
pub mod Files
pub mod HashedFiles
pub mod Losing
pub mod Paths
pub mod Restoring
pub mod Walking
