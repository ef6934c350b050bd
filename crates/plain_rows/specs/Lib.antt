pub mod Nodes
pub mod Entries
pub mod Rows
