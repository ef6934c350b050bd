pub mod Testing
pub mod Walks
