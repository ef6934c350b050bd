pub mod Added
pub mod Chains
pub mod Counted
pub mod Named
pub mod Tables
pub mod Walks
