pub mod Canon
pub mod Instances
