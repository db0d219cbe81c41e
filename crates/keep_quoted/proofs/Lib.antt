pub mod Apart
pub mod Chunks
pub mod Numbers
pub mod Pieces
pub mod Plain
pub mod ReadBack
pub mod Skipped
