pub mod Bad
pub mod Checks
pub mod Due
pub mod Laws
pub mod Leaves
pub mod Lists
pub mod Reads
pub mod Settled
