pub mod Each
pub mod Nets
pub mod Parts
pub mod Instances
