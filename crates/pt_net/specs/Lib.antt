pub mod Filling
pub mod Firing
pub mod InArrays
pub mod Instances
pub mod Markings
pub mod Numbering
pub mod Packing
pub mod Systems
