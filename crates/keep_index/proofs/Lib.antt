pub mod Entries
pub mod Firsts
pub mod Gathered
pub mod Joined
pub mod Left
pub mod ReadFits
pub mod RoundTrip
