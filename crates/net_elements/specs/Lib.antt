pub mod Instances
pub mod Rows
pub mod Rules
pub mod Table
pub mod Walking
