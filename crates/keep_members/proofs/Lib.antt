pub mod Modes
pub mod ReadBack
pub mod Standing
