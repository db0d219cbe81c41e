pub mod Blobs
pub mod NewPacks
pub mod Packs
pub mod Stored
pub mod Storing
