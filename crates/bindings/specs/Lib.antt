pub mod Instances
pub mod Listed
