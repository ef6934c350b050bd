pub mod Examples
pub mod Laws
pub mod Properties
pub mod Resolved
