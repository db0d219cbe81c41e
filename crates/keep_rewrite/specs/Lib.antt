pub mod Finishing
pub mod Leaving
pub mod Rewriting
pub mod Walking
