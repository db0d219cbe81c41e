pub mod Apart
pub mod Decided
pub mod Ends
pub mod Few
pub mod Left
pub mod Spelling
pub mod Tails
