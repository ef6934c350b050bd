pub mod Borrowed
pub mod Distinct
pub mod Rows
pub mod Ends
pub mod Built
pub mod Reaches
