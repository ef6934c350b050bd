pub mod Faults
pub mod Table
pub mod Files
pub mod Goals
pub mod Within
