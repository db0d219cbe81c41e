pub mod Mark
pub mod Reindexing
pub mod Repair
pub mod Sweep
