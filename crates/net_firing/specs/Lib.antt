pub mod Coloured
pub mod FileNets
pub mod Firing
pub mod Instances
pub mod Laws
pub mod Markings
pub mod Unfolding
