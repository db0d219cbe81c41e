pub mod Answering
pub mod Building
pub mod Built
pub mod Cutting
pub mod Firsts
pub mod Keeping
pub mod NamedPacks
pub mod Packable
