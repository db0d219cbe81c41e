pub mod Crossing
pub mod Inverse
pub mod Moments
pub mod Relabelled
pub mod RoundTrip
pub mod Standing
pub mod Times
pub mod Told
