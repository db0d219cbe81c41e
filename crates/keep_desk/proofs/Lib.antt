pub mod Answering
pub mod BookCrossing
pub mod Cascading
pub mod Closing
pub mod Counting
pub mod Crossing
pub mod Settling
