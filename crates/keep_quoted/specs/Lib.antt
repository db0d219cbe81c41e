pub mod Quote
pub mod Unquote
