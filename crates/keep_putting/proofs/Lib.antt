pub mod Care
pub mod Chain
pub mod Finishing
pub mod Folders
pub mod Put
pub mod Written
