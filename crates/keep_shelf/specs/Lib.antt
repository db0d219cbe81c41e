pub mod Failing
pub mod Key
pub mod Plan
pub mod Shelved
pub mod Stocked
