pub mod Lookups
pub mod Fronts
