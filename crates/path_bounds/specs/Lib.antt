pub mod Following
pub mod Held
