pub mod Built
pub mod Entries
pub mod Frame
pub mod Grammar
pub mod Honest
