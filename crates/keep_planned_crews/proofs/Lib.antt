pub mod Going
pub mod Texts
