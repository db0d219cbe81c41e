pub mod Reach
pub mod Snapshots
pub mod Sound
pub mod Used
pub mod Walk
