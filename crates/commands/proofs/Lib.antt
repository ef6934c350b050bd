pub mod Shown
pub mod TooLong
pub mod Read
pub mod One
