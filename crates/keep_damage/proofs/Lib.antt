pub mod Blaming
pub mod Damages
pub mod Noted
pub mod Passing
pub mod Still
