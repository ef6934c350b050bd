pub mod Numbers
pub mod Lines
pub mod Sections
pub mod Meanings
pub mod Laws
pub mod Examples
