pub mod Products
pub mod Lists
pub mod Flows
pub mod Refutation
pub mod Sound
