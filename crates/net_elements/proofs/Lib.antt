pub mod Counts
pub mod Trims
pub mod Verdicts
pub mod Walks
