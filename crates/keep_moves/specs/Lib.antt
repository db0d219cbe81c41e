pub mod Behind
pub mod Calls
pub mod Course
pub mod Laws
pub mod Lists
pub mod Move
pub mod Notices
pub mod Standing
