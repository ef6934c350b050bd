pub mod Inductions
pub mod Layers
