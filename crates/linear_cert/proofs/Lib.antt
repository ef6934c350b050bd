pub mod Searches
pub mod Places
pub mod Adding
pub mod Bases
pub mod Traps
