pub mod Mapped
pub mod Entering
pub mod Limits
pub mod Example
