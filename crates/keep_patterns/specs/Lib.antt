pub mod Matching
pub mod Parsing
pub mod RestOrder
pub mod Rests
pub mod Steps
pub mod Walks
pub mod Without
