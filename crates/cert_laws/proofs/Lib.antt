pub mod Lists
pub mod Inputs
pub mod Firing
pub mod Values
pub mod Truths
pub mod Reaching
pub mod Plain
pub mod Fates
