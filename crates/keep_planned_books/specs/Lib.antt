pub mod History
pub mod Jobs
pub mod Lines
pub mod Losing
pub mod Selected
pub mod SoundBooks
