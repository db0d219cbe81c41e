pub mod Event
pub mod History
pub mod Journal
pub mod Kept
pub mod Lasting
pub mod Laws
pub mod Opening
pub mod Standings
