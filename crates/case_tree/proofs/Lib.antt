pub mod Bounding
pub mod Finding
pub mod Branching
pub mod Walking
