pub mod Finding
pub mod Followed
pub mod Following
pub mod Gathering
pub mod Mentions
pub mod Noting
pub mod Taken
pub mod Undone
