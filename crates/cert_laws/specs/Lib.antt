pub mod Examples
pub mod Laws
pub mod PlainNets
pub mod Reducing
