pub mod Asked
pub mod Blame
pub mod Compared
pub mod Damage
pub mod Entries
pub mod Report
pub mod Teller
