pub mod Binding
pub mod Digits
pub mod Judging
pub mod Known
pub mod Setting
pub mod Testable
