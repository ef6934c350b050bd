pub mod Shown
pub mod Tokens
