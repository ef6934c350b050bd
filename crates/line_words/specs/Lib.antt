pub mod Lines
pub mod Lists
pub mod Parts
pub mod Readers
pub mod Texts
pub mod Words
