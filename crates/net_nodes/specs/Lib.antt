pub mod Instances
pub mod Links
pub mod Nodes
pub mod Numbered
