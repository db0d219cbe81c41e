pub mod Depth
pub mod Distinct
pub mod Inverse
pub mod ReadBack
