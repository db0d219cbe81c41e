pub mod Excluding
pub mod Given
pub mod Job
pub mod Limits
pub mod Met
pub mod Told
pub mod Took
pub mod Walked
