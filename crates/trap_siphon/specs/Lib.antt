pub mod Closing
pub mod Sets
pub mod Siphons
pub mod Stages
