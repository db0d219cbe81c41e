pub mod Chronicle
pub mod Rules
