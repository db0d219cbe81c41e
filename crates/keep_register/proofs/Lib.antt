pub mod Allowing
pub mod Crossing
pub mod Lasting
pub mod Paging
pub mod PassCrossing
pub mod Recording
pub mod Telling
