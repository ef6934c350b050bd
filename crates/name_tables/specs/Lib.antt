pub mod Grammar
pub mod Numbering
pub mod Tables
