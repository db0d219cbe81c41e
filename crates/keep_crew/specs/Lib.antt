pub mod Allowing
pub mod Answered
pub mod Asking
pub mod Planned
