mod Alike
pub mod Finished
pub mod Kept
pub mod Listed
pub mod Made
pub mod Nodes
mod OneNode
pub mod Picked
pub mod Planned
mod Remembered
pub mod Several
mod Turned
