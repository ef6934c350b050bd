pub mod Visits
pub mod Depths
