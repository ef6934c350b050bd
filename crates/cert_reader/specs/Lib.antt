pub mod Feeding
pub mod Grammar
pub mod Reading
pub mod Rewriting
