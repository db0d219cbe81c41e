pub mod Facet
pub mod Files
pub mod Kinds
pub mod Repository
