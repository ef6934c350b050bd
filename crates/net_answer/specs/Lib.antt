pub mod Documents
pub mod Canons
