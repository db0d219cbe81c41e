pub mod GivenAll
pub mod Joined
pub mod Leaves
pub mod Pieces
