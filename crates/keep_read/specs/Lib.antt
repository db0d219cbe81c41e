pub mod Contents
pub mod Findings
pub mod Found
pub mod Hashed
pub mod Losses
pub mod Refusals
pub mod Restored
